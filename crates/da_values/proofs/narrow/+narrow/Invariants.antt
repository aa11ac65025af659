use Rattle.std.proofs.Common.{◌≡◌, true, take}
use Rattle.std.specs.List.{list_all}
use Rattle.da_values.specs.Narrow.{is_narrow}
use Rattle.da_values.specs.Value.{val_of, vals, weight, weights}
use Rattle.da_values.proofs.narrow.+narrow.Given as goal

abbrev pub decreases-is_narrow : goal.decreases-is_narrow
decreases-is_narrow l = weight (val_of l.v.now)

abbrev pub decreases-all_narrow : goal.decreases-all_narrow
decreases-all_narrow l = weights (vals l.values.now)

abbrev pub invariant-all_narrow-loop-value : goal.invariant-all_narrow-loop-value
invariant-all_narrow-loop-value l = list_all is_narrow (vals (take l.value-index l.values)) ≡ true
