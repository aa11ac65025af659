use Rattle.std.proofs.Common.{◌+◌, length}
use Rattle.type_table.specs.Weight.{weight}
use Rattle.type_table.proofs.SolveLaws.{Solving}
use Rattle.type_table.proofs.solve.unify.Given as goal

abbrev pub invariant-loop-one : goal.invariant-loop-one
invariant-loop-one l = Solving l.initial.forms l.first l.second l.forms l.todo

abbrev pub decreases-loop-one : goal.decreases-loop-one
decreases-loop-one l = weight l.forms + length l.todo
