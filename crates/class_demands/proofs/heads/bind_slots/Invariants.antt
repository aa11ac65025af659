use Rattle.std.proofs.Common.{◌≡◌, drop}
use Rattle.class_demands.specs.Heads.{bind_slots}
use Rattle.class_demands.proofs.heads.bind_slots.Given as goal

abbrev pub invariant-loop-bind : goal.invariant-loop-bind
invariant-loop-bind l = bind_slots (drop l.bind-index l.binds) l.rest l.slots ≡ bind_slots l.binds l.row l.initial.slots
