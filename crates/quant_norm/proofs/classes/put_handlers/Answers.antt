use Rattle.quant_norm.proofs.QuerySteps.{handler_further, met_ended}
use Rattle.quant_norm.specs.Making.{handler_met}
use Rattle.quant_norm.proofs.FullPlans.{put_halted, handler_over}
use Rattle.quant_norm.proofs.classes.put_handlers.Goals as goal

pub loop-handler-preserved : goal.loop-handler-preserved
loop-handler-preserved c = handler_further _ _ _ _ _ _ _ c.loop-handler.invariant c.loop-handler-test.true c.handler-item.is c.as_slice.ensures c.in_ok-further.ensures

pub returns : goal.returns
returns c = met_ended handler_met _ _ _ _ c.loop-handler.invariant c.loop-handler-test.false

pub returns-in_err-further : goal.returns-in_err-further
returns-in_err-further c = put_halted _ _ _ _ c.from_residual.ensures.1 (λ e. handler_over _ _ _ _ _ _ c.loop-handler.invariant c.loop-handler-test.true c.handler-item.is c.as_slice.ensures (c.in_err-further.ensures e))
