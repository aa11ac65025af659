use Rattle.run_page.proofs.CellLemmas.{slot_on, slots_end}
use Rattle.run_page.proofs.cells.add_values.Goals as goal

pub loop-value-preserved : goal.loop-value-preserved
loop-value-preserved c =
    let l = c.loop-value in
    slot_on _ l.left.now c.behind-left.result.now l.number c.in_ok-next.next c.args.values.now l.value-index c.value-item.result l.cells c.add_value.new.cells c.loop-value-test.true c.value-item.is l.invariant c.in_ok-add_value.ensures c.behind-left.ensures c.in_ok-next.ensures

pub returns : goal.returns
returns c =
    let l = c.loop-value in
    slots_end c.args.cells.now l.cells c.args.names.now l.left.now l.number l.value-index c.args.values.now c.loop-value-test.false l.invariant
