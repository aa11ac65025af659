use Rattle.da_lang.specs.Typing.{handler_breaks}
use Rattle.da_types.proofs.TellingLaws.{told_done, told_more}
use Rattle.da_types.proofs.lines.tell_handlers.Goals as goal

pub loop-handler-preserved : goal.loop-handler-preserved
loop-handler-preserved c =
    told_more (handler_breaks c.args.known.now.messages.now c.args.queries.now c.args.known.now.slots.now) c.args.handlers.now c.loop-handler.handler-index c.handler-item.result _ _ _
    c.loop-handler-test.true c.handler-item.is c.loop-handler.invariant c.in_ok-tell_handler.ensures

pub returns : goal.returns
returns c =
    told_done (handler_breaks c.args.known.now.messages.now c.args.queries.now c.args.known.now.slots.now) c.args.handlers.now c.loop-handler.handler-index _ _ c.loop-handler-test.false c.loop-handler.invariant
