use Rattle.std.proofs.Common.{subst}
use Rattle.code_gen.specs.Made.{MadeBlock}
use Rattle.code_gen.proofs.ClassCode.{handlers_next, handlers_whole, made_no_handler}
use Rattle.code_gen.proofs.classes.emit_handlers.Goals as goal

pub bodies-init : goal.bodies-init
bodies-init c = made_no_handler _ _ c.new-entries.ensures

pub bodies-preserved : goal.bodies-preserved
bodies-preserved c =
    handlers_next _ _ _ _ c.args.handlers.now c.bodies.handler-index _ _ _ c.handler-item.result c.bodies-test.true c.handler-item.is c.bodies.invariant c.here.ensures c.in_ok-push.ensures.ok
    (subst (MadeBlock _ _) c.as_slice.ensures c.in_ok-emit_block.ensures) c.in_ok-put.ensures

pub returns : goal.returns
returns c = handlers_whole _ _ c.args.handlers.now c.bodies.handler-index _ c.bodies-test.false c.bodies.invariant
