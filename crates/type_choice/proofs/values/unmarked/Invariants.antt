use Rattle.std.proofs.Common.{◌≡◌, false, replicate}
use Rattle.type_choice.proofs.values.unmarked.Given as goal

abbrev pub invariant-loop-i : goal.invariant-loop-i
invariant-loop-i l = l.marks ≡ replicate l._i false
