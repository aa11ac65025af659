use Rattle.std.proofs.Common.{◌≡◌, drop}
use Rattle.std.specs.Prelude.{flat_map}
use Rattle.da_lang.specs.Typing.{handler_breaks}
use Rattle.da_types.specs.Telling.{telling}
use Rattle.da_types.proofs.lines.tell_handlers.Given as goal

abbrev pub invariant-loop-handler : goal.invariant-loop-handler
invariant-loop-handler l = telling l.least (flat_map (handler_breaks l.known.messages.now l.queries l.known.slots.now) (drop l.handler-index l.handlers)) ≡ telling l.initial.least (flat_map (handler_breaks l.known.messages.now l.queries l.known.slots.now) l.handlers)
