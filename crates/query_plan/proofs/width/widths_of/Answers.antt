use Rattle.query_plan.proofs.WidthSteps.{widths_more}
use Rattle.query_plan.proofs.width.widths_of.Goals as goal

pub loop-node-preserved : goal.loop-node-preserved
loop-node-preserved c =
    widths_more _ _ _ _ _ _ c.node-item.is c.loop-node-test.true c.loop-node.invariant (rw c.as_slice.ensures at c.in_ok-width.ensures) c.in_ok-push.ensures.ok
