-- One action more was looked at.
use Rattle.std.proofs.Common.{◌∙◌}
use Rattle.trace_join.proofs.WakeLaws.{woken_on}
use Rattle.trace_join.proofs.wake.wake.Goals as goal

pub loop-action-preserved : goal.loop-action-preserved
loop-action-preserved c = (
  c.wake_one.ensures.length ∙ c.loop-action.invariant.0,
  woken_on c.args.me c.args.told.now c.loop-action.action-index c.action-item.result c.args.tracks.now c.args.waits.now c.loop-action.waits
      c.wake_one.new.waits c.loop-action-test.true c.action-item.is
      c.loop-action.invariant.1 c.wake_one.ensures.woken,
)
