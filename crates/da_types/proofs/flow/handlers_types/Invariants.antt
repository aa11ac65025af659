use Rattle.std.proofs.Common.{◌≡◌, map, drop}
use Rattle.da_lang.specs.Typing.{handler_types, in_turn}
use Rattle.da_types.proofs.flow.handlers_types.Given as goal

abbrev pub invariant-loop-handler : goal.invariant-loop-handler
invariant-loop-handler l = in_turn (map (handler_types l.messages l.queries) (drop l.handler-index l.handlers)) l.slots ≡ in_turn (map (handler_types l.messages l.queries) l.handlers) l.initial.slots
