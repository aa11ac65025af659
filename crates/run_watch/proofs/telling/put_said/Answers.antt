use Rattle.std.proofs.Common.{append-nil, sym}
use Rattle.run_watch.proofs.TellLemmas.{said_all, said_on}
use Rattle.run_watch.proofs.telling.put_said.Goals as goal

pub loop-action-init : goal.loop-action-init
loop-action-init c = sym (append-nil c.args.out.now)

pub loop-action-preserved : goal.loop-action-preserved
loop-action-preserved c = said_on c.args.actions.now c.loop-action.action-index c.action-item.result c.args.out.now c.loop-action.out _ c.loop-action-test.true c.action-item.is c.loop-action.invariant c.in_ok-put_if_said.ensures

pub returns : goal.returns
returns c = said_all c.args.actions.now c.loop-action.action-index c.args.out.now c.loop-action.out c.loop-action-test.false c.loop-action.invariant
