use Rattle.std.proofs.Common.{◌≡◌, map, take}
use Rattle.class_demands.specs.Unknowns.{declared_message}
use Rattle.class_demands.proofs.schemes.declared_messages.Given as goal

abbrev pub invariant-loop-message : goal.invariant-loop-message
invariant-loop-message l = l.schemes ≡ map declared_message (take l.message-index l.messages)
