use Rattle.std.proofs.Common.{◌++◌, ap, arith}
use Rattle.query_plan.specs.Storing.{ranks}
use Rattle.query_plan.proofs.KeepLaws.{numbers_end, numbers_next}
use Rattle.query_plan.proofs.storing.numbers_of.Goals as goal

pub loop-stays-init : goal.loop-stays-init
loop-stays-init c = ap (λ ns. ns ++ ranks 0 c.args.kept.now) c.new-numbers.ensures

pub loop-stays-preserved : goal.loop-stays-preserved
loop-stays-preserved c =
    numbers_next (ranks 0 c.args.kept.now) c.loop-stays.numbers c.push.new.self c.args.kept.now c.loop-stays.stays-index c.loop-stays.count _ _ c.loop-stays-test.true c.in_ok-push.ensures.ok c.in_ok-count.ensures c.loop-stays.invariant

pub returns : goal.returns
returns c = numbers_end c.loop-stays.numbers c.args.kept.now c.loop-stays.stays-index c.loop-stays.count (omega (arith, c.loop-stays-test.false)) c.loop-stays.invariant
