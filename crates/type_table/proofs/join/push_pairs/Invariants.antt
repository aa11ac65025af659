use Rattle.std.proofs.Common.{◌≡◌, ◌++◌, take, zip}
use Rattle.type_table.proofs.join.push_pairs.Given as goal

abbrev pub invariant-loop-i : goal.invariant-loop-i
invariant-loop-i l = l.todo ≡ l.initial.todo ++ zip (take l.i l.first) (take l.i l.second)
