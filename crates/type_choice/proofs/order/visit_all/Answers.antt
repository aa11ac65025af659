use Rattle.std.proofs.Common.{arith}
use Rattle.type_choice.specs.Order.{needs_at}
use Rattle.type_choice.proofs.OrderLaws.{to_none, next_number, all_numbers}
use Rattle.type_choice.proofs.order.visit_all.Goals as goal

pub visit-requires-clause-sizes : goal.visit-requires-clause-sizes
visit-requires-clause-sizes c = c.loop-number.invariant.sizes

pub visit-requires-clause-from : goal.visit-requires-clause-from
visit-requires-clause-from c = to_none c.loop-number.walk.marks (needs_at c.args.forms.now c.loop-number.number)

pub loop-number-preserved : goal.loop-number-preserved
loop-number-preserved c = next_number c.args.forms.now c.loop-number.number c.loop-number-test.true c.loop-number.walk c.visit.new.walk c.loop-number.invariant c.in_ok-visit.ensures

pub returns : goal.returns
returns c = all_numbers c.args.forms.now c.loop-number.number c.loop-number.walk (omega (arith, c.loop-number-test.false)) c.loop-number.invariant
