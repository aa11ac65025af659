use Rattle.std.proofs.Common.{◌≡◌, take, map}
use Rattle.da_lang.specs.World.{first_value}
use Rattle.da_core.proofs.opening.first_values.Given as goal

abbrev pub invariant-loop-slot : goal.invariant-loop-slot
invariant-loop-slot l = l.values ≡ map (first_value l.me) (take l.slot-index l.slots)
