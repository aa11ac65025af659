use Rattle.std.proofs.Common.{◌≡◌, false, take}
use Rattle.delta_rules.specs.SlotUse.{is_listed}
use Rattle.delta_rules.proofs.uses.is_listed.Given as goal

abbrev pub invariant-loop-other : goal.invariant-loop-other
invariant-loop-other l = is_listed l.slot (take l.other-index l.slots) ≡ false
