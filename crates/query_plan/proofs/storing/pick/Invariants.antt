use Rattle.std.proofs.Common.{◌≡◌, ◌++◌, drop}
use Rattle.query_plan.specs.Storing.{number_in, picked}
use Rattle.query_plan.proofs.storing.pick.Given as goal

abbrev pub invariant-loop-i : goal.invariant-loop-i
invariant-loop-i l = l.picks ++ picked (number_in l.numbers) (drop l.i l.kept) (drop l.i l.nodes) ≡ picked (number_in l.numbers) l.kept l.nodes
