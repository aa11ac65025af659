use Rattle.std.proofs.Common.{◌≡◌, map, take}
use Rattle.query_plan.specs.Storing.{number_in, renumbered_test}
use Rattle.query_plan.proofs.storing.renumber_tests.Given as goal

abbrev pub invariant-loop-one : goal.invariant-loop-one
invariant-loop-one l = l.fresh ≡ map (renumbered_test (number_in l.numbers)) (take l.one-index l.tests)
