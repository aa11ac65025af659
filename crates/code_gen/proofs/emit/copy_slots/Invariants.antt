use Rattle.std.proofs.Common.{◌≡◌, take}
use Rattle.code_gen.proofs.emit.copy_slots.Given as goal

abbrev pub invariant-slots : goal.invariant-slots
invariant-slots l = l.copy ≡ take l.slot-index l.slots
