use Rattle.std.proofs.Common.{◌++◌, ◌+◌, ◌∙◌, ap, arith, refl, sym}
use Rattle.trace_page.specs.Layout.{first_number}
use Rattle.trace_page.specs.Rows.{placed}
use Rattle.trace_page.specs.Sheets.{rows_at}
use Rattle.trace_page.proofs.SpotLemmas.{lines_end, lines_on, place_on, rows_end}
use Rattle.trace_page.proofs.spots.place_rows.Goals as goal

pub loop-row-init : goal.loop-row-init
loop-row-init c =
    let items = c.as_slice-row-items.result.now in
    record {
      rows = ap (λ n. placed n 0 items) (sym c.first_number-event.ensures) ∙ ap (λ found. rows_at found ++ placed c.first_number-event.result 0 items) (sym c.new-found.ensures);
      lines = omega arith;
    }

pub loop-row-preserved : goal.loop-row-preserved
loop-row-preserved c =
    let items = c.as_slice-row-items.result.now in
    let l = c.loop-row in
    record {
      rows =
          place_on (placed (first_number c.args.page.now.kind) 0 items) items l.row-index c.row-item.result l.event l.line c.in_ok-next.next c.in_ok-below.below _ l.found c.push.new.self
          c.loop-row-test.true c.row-item.is l.invariant.rows c.in_ok-push.ensures.ok refl c.in_ok-next.ensures (c.in_ok-below.ensures ∙ ap (λ n. l.line + n) c.height.ensures);
      lines = lines_on _ items l.row-index c.row-item.result l.line c.in_ok-below.below c.loop-row-test.true c.row-item.is l.invariant.lines (c.in_ok-below.ensures ∙ ap (λ n. l.line + n) c.height.ensures);
    }

pub returns-clause-rows : goal.returns-clause-rows
returns-clause-rows c =
    let l = c.loop-row in
    rows_end c.as_slice-row-items.result.now c.args.page.now.rows (first_number c.args.page.now.kind) l.row-index l.event l.line l.found c.loop-row-test.false c.as_slice-row-items.ensures l.invariant.rows

pub returns-clause-lines : goal.returns-clause-lines
returns-clause-lines c =
    let l = c.loop-row in
    lines_end c.as_slice-row-items.result.now c.args.page.now.rows l.row-index l.line c.loop-row-test.false c.as_slice-row-items.ensures l.invariant.lines
