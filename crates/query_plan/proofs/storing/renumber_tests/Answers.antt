use Rattle.query_plan.specs.Storing.{number_in, renumbered_test}
use Rattle.query_plan.proofs.KeepLaws.{renumbered_more}
use Rattle.query_plan.proofs.storing.renumber_tests.Goals as goal

pub loop-one-preserved : goal.loop-one-preserved
loop-one-preserved c =
    renumbered_more (renumbered_test (number_in c.args.numbers.now)) c.args.tests.now c.loop-one.fresh c.push.new.self c.loop-one.one-index _ c.renumber_test.result c.loop-one-test.true c.renumber_test.ensures c.loop-one.invariant
    c.in_ok-push.ensures.ok
