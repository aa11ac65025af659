use Rattle.std.proofs.Common.{◌≡◌, ◌+◌, ◌-◌, ℕ, length}
use Rattle.class_demands.specs.Marks.{is_marked}
use Rattle.class_demands.proofs.prefix.make_room.Given as goal

abbrev pub invariant-room : goal.invariant-room
invariant-room l = (k : ℕ) → is_marked l.used k ≡ is_marked l.initial.used k

abbrev pub decreases-room : goal.decreases-room
decreases-room l = l.at + 1 - length l.used
