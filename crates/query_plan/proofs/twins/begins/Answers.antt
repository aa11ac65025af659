use Rattle.std.proofs.Common.{arith, refl}
use Rattle.query_plan.proofs.EntryLaws.{begins_more, begins_whole}
use Rattle.query_plan.proofs.twins.begins.Goals as goal

pub loop-place-init : goal.loop-place-init
loop-place-init c = (omega arith, refl)

pub loop-place-preserved : goal.loop-place-preserved
loop-place-preserved c = (
  c.loop-place.invariant.0,
  begins_more c.args.all.now c.args.front.now c.loop-place.place _ _ (omega (arith, c.loop-place-test.true, c.loop-place.invariant.0)) c.loop-place-test.true (c.same_test.ensures c.if-not-same_test.false) c.loop-place.invariant.1,
)

pub returns : goal.returns
returns c = λ told. begins_whole c.args.all.now c.args.front.now c.loop-place.place (omega (arith, c.loop-place-test.false)) c.loop-place.invariant.1
