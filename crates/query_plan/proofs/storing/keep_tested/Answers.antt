use Rattle.std.proofs.Common.{arith, refl}
use Rattle.query_plan.proofs.KeepLaws.{tested_all, tested_more}
use Rattle.query_plan.proofs.storing.keep_tested.Goals as goal

pub loop-one-init : goal.loop-one-init
loop-one-init c = refl

pub loop-one-preserved : goal.loop-one-preserved
loop-one-preserved c = tested_more c.args.kept.now c.loop-one.kept c.keep.new.kept c.args.tests.now c.loop-one.one-index _ c.loop-one-test.true c.loop-one.invariant c.keep.ensures

pub returns : goal.returns
returns c = tested_all c.args.kept.now c.loop-one.kept c.args.tests.now c.loop-one.one-index (omega (arith, c.loop-one-test.false)) c.loop-one.invariant
