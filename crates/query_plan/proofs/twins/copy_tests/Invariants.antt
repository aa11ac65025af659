use Rattle.std.proofs.Common.{◌≡◌, take}
use Rattle.query_plan.proofs.twins.copy_tests.Given as goal

abbrev pub invariant-loop-one : goal.invariant-loop-one
invariant-loop-one l = l.copy ≡ take l.one-index l.tests
