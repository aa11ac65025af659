use Rattle.std.proofs.Common.{◌++◌, ◌∙◌, ap, sym}
use Rattle.run_page.specs.Cells.{changes_from, changes_of}
use Rattle.run_page.proofs.WalkLemmas.{process_next, processes_end}
use Rattle.run_page.proofs.changes.changes_between.Goals as goal

pub loop-cells-init : goal.loop-cells-init
loop-cells-init c = ap (λ found. found ++ changes_from 1 c.args.earlier.now c.args.later.now) (sym c.new-found.ensures)

pub loop-cells-preserved : goal.loop-cells-preserved
loop-cells-preserved c =
    let l = c.loop-cells in
    process_next _ l.p c.in_ok-next.next l.before.now c.split_first.result.1.now c.args.later.now l.cells-index c.split_first.result.0.now c.cells-item.result l.found c.add_changes.new.found c.loop-cells-test.true c.cells-item.is l.invariant
    c.split_first.ensures (c.in_ok-add_changes.ensures ∙ ap (λ now. l.found ++ changes_of l.p 0 c.split_first.result.0.now now) c.as_slice.ensures) c.in_ok-next.ensures

pub returns : goal.returns
returns c =
    let l = c.loop-cells in
    processes_end (changes_from 1 c.args.earlier.now c.args.later.now) l.found l.p l.before.now c.args.later.now l.cells-index c.loop-cells-test.false l.invariant
