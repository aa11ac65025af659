use Rattle.std.proofs.Common.{arith}
use Rattle.type_choice.specs.Order.{needs}
use Rattle.type_choice.proofs.VisitLaws.{marked_next, marked_all}
use Rattle.type_choice.proofs.order.waits_for.Goals as goal

pub loop-place-preserved : goal.loop-place-preserved
loop-place-preserved c = marked_next c.args.marks.now (needs c.args.form.now) c.args.from c.loop-place.place c.loop-place.invariant (c.unmarked_at.ensures.marked c.in_default.is)

pub returns-clause-all : goal.returns-clause-all
returns-clause-all c = λ none. marked_all c.args.marks.now (needs c.args.form.now) c.args.from c.loop-place.place c.count-place-end.result c.loop-place.invariant c.count-place-end.ensures (omega (arith, c.loop-place-test.false))
