use Rattle.std.proofs.Common.{◌≡◌, take}
use Rattle.query_plan.specs.Storing.{all_kept, test_nodes}
use Rattle.query_plan.proofs.storing.keep_tested.Given as goal

abbrev pub invariant-loop-one : goal.invariant-loop-one
invariant-loop-one l = l.kept ≡ all_kept l.fn.kept (test_nodes (take l.one-index l.tests))
