use Rattle.std.proofs.Common.{◌≡◌, map, take}
use Rattle.class_demands.specs.Unknowns.{declared_slot}
use Rattle.class_demands.proofs.schemes.declared_slots.Given as goal

abbrev pub invariant-loop-slot : goal.invariant-loop-slot
invariant-loop-slot l = l.schemes ≡ map declared_slot (take l.slot-index l.slots)
