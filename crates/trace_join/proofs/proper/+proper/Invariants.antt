use Rattle.std.proofs.Common.{◌↔◌, drop}
use Rattle.da_values.specs.Proper.{AreValues}
use Rattle.da_values.specs.Value.{val_of, vals, weight, weights}
use Rattle.trace_join.proofs.proper.+proper.Given as goal

abbrev pub decreases-is_proper : goal.decreases-is_proper
decreases-is_proper l = weight (val_of l.v.now)

abbrev pub decreases-all_proper : goal.decreases-all_proper
decreases-all_proper l = weights (vals l.values.now)

abbrev pub invariant-all_proper-loop-value : goal.invariant-all_proper-loop-value
invariant-all_proper-loop-value l = AreValues (vals (drop l.value-index l.values)) ↔ AreValues (vals l.values)
