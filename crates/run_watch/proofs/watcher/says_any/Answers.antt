use Rattle.run_watch.proofs.WatchLemmas.{said_nowhere, said_there, unsaid_so_far}
use Rattle.run_watch.proofs.watcher.says_any.Goals as goal

pub loop-action-preserved : goal.loop-action-preserved
loop-action-preserved c =
    unsaid_so_far c.args.actions.now c.loop-action.action-index c.action-item.result c.is_said.result c.loop-action-test.true c.action-item.is c.is_said.ensures c.if-is_said.false c.loop-action.invariant

pub returns-then-is_said : goal.returns-then-is_said
returns-then-is_said c = said_there c.args.actions.now c.loop-action.action-index c.action-item.result c.is_said.result c.loop-action-test.true c.action-item.is c.is_said.ensures c.if-is_said.true c.loop-action.invariant

pub returns : goal.returns
returns c = said_nowhere c.args.actions.now c.loop-action.action-index c.loop-action-test.false c.loop-action.invariant
