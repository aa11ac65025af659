use Rattle.std.proofs.Common.{◌≡◌, map, drop}
use Rattle.std.specs.List.{list_all}
use Rattle.da_lang.specs.Types.{all_of, is_of}
use Rattle.da_values.specs.Value.{val_of, vals, weight, weights}
use Rattle.da_core.proofs.messages.+typed.Given as goal

abbrev pub decreases-is_of : goal.decreases-is_of
decreases-is_of l = weight (val_of l.value.now)

abbrev pub decreases-are_of : goal.decreases-are_of
decreases-are_of l = weights (vals l.values.now)

abbrev pub decreases-all_of : goal.decreases-all_of
decreases-all_of l = weights (vals l.values.now)

abbrev pub invariant-are_of-loop-value : goal.invariant-are_of-loop-value
invariant-are_of-loop-value l = all_of (map is_of l.rest) (vals (drop l.value-index l.values)) ≡ all_of (map is_of l.types) (vals l.values)

abbrev pub invariant-all_of-loop-value : goal.invariant-all_of-loop-value
invariant-all_of-loop-value l = list_all (is_of l.ty) (vals (drop l.value-index l.values)) ≡ list_all (is_of l.ty) (vals l.values)
