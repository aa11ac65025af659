use Rattle.std.proofs.Common.{◌≡◌, replicate}
use Rattle.type_choice.proofs.values.zeros.Given as goal

abbrev pub invariant-loop-i : goal.invariant-loop-i
invariant-loop-i l = l.numbers ≡ replicate l._i 0
