use Rattle.std.proofs.Common.{◌≡◌, ◌++◌, drop}
use Rattle.da_values.specs.Value.{vals}
use Rattle.da_machine.proofs.stack.copies_from.Given as goal

abbrev pub invariant-loop-at : goal.invariant-loop-at
invariant-loop-at l = l.row ++ vals (drop l.at l.values) ≡ vals (drop l.place l.values)
