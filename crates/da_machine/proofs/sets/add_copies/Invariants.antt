use Rattle.std.proofs.Common.{◌≡◌, ◌++◌, take}
use Rattle.da_machine.proofs.sets.add_copies.Given as goal

abbrev pub invariant-values : goal.invariant-values
invariant-values l = l.copies.items ≡ l.initial.copies.items ++ take l.value-index l.values
