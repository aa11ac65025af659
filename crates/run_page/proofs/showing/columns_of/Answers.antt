use Rattle.std.proofs.Common.{◌≡◌, ◌+◌, ◌∙◌, ap, arith, length}
use Rattle.run_page.proofs.ColumnLemmas.{column_next, columns_all}
use Rattle.run_page.proofs.showing.columns_of.Goals as goal

pub loop-decl-init : goal.loop-decl-init
loop-decl-init c = record { columns = c.new-columns.ensures; process = omega arith; within = omega arith }

pub loop-decl-preserved : goal.loop-decl-preserved
loop-decl-preserved c =
    let l = c.loop-decl in
    record {
      columns =
          column_next c.args.program.now c.as_slice-decl-items.result.now l.decl-index l.process c.decl-item.result c.in_ok-name.name l.columns c.push.new.self c.as_slice-decl-items.ensures c.loop-decl-test.true c.decl-item.is l.invariant.process
          c.in_ok-name.ensures l.invariant.columns c.in_ok-push.ensures.ok;
      process = c.in_ok-next.ensures ∙ ap (λ n. n + 1) l.invariant.process;
      within = omega (arith, c.loop-decl-test.true);
    }

pub returns : goal.returns
returns c =
    let l = c.loop-decl in
    let all : l.decl-index ≡ length c.args.program.now.procs = omega (arith, c.loop-decl-test.false, l.invariant.within, ap length c.as_slice-decl-items.ensures) in
    columns_all c.args.program.now l.decl-index l.columns all l.invariant.columns
