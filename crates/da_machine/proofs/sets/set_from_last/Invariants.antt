use Rattle.std.proofs.Common.{length}
use Rattle.da_machine.proofs.Permuted.{FromLast}
use Rattle.da_machine.proofs.sets.set_from_last.Given as goal

abbrev pub invariant-values : goal.invariant-values
invariant-values l = FromLast l.fn.values.items l.left.items l.set

abbrev pub decreases-values : goal.decreases-values
decreases-values l = length l.left.items
