use Rattle.std.specs.List.{sum_by}
use Rattle.std.proofs.Common.{◌≡◌, take}
use Rattle.query_plan.specs.Nodes.{binds}
use Rattle.query_plan.proofs.width.+binds.Given as goal

abbrev pub invariant-all_variables-loop-pattern : goal.invariant-all_variables-loop-pattern
invariant-all_variables-loop-pattern l = l.count ≡ sum_by binds (take l.pattern-index l.patterns)
