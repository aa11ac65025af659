use Rattle.untyped_laws.specs.Flow.{handler_steps}
use Rattle.class_demands.proofs.WalkForms.{walk_more}
use Rattle.class_demands.proofs.heads.handlers_heads.Goals as goal

pub loop-handler-preserved : goal.loop-handler-preserved
loop-handler-preserved c =
    walk_more c.args.messages.now c.args.queries.now handler_steps c.args.handlers.now c.loop-handler.handler-index c.handler-item.result c.loop-handler.slots c.handler_heads.new.slots _ c.loop-handler.heads c.handler_heads.new.heads _
    c.loop-handler-test.true c.handler-item.is c.loop-handler.invariant c.in_ok-handler_heads.ensures
