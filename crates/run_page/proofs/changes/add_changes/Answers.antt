use Rattle.run_page.proofs.WalkLemmas.{cell_next, cells_end}
use Rattle.run_page.proofs.changes.add_changes.Goals as goal

pub loop-cell-preserved : goal.loop-cell-preserved
loop-cell-preserved c =
    let l = c.loop-cell in
    cell_next _ c.args.p l.place c.in_ok-next.next l.before.now c.value_first.result.1.now c.args.later.now l.cell-index c.value_first.result.0.now c.cell-item.result l.found c.add_change.new.found c.loop-cell-test.true c.cell-item.is l.invariant
    c.value_first.ensures c.in_ok-add_change.ensures c.in_ok-next.ensures

pub returns : goal.returns
returns c =
    let l = c.loop-cell in
    cells_end _ l.found c.args.p l.place l.before.now c.args.later.now l.cell-index c.loop-cell-test.false l.invariant
