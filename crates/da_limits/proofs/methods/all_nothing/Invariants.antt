use Rattle.std.proofs.Common.{◌≡◌, length}
use Rattle.da_limits.proofs.methods.all_nothing.Given as goal

abbrev pub invariant-loop-at : goal.invariant-loop-at
invariant-loop-at l = length l.extents ≡ l._at
