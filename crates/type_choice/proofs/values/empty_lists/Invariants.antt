use Rattle.std.proofs.Common.{◌≡◌, [], replicate}
use Rattle.type_choice.proofs.values.empty_lists.Given as goal

abbrev pub invariant-loop-i : goal.invariant-loop-i
invariant-loop-i l = l.lists ≡ replicate l._i []
