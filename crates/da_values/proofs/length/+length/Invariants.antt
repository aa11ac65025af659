use Rattle.std.proofs.Common.{◌≡◌, ◌-◌, ◌^◌, map, min, sum, take}
use Rattle.da_values.specs.Lengths.{encoded_len}
use Rattle.da_values.specs.Value.{val_of, vals, weight, weights}
use Rattle.da_values.proofs.length.+length.Given as goal

abbrev pub decreases-encoded_len : goal.decreases-encoded_len
decreases-encoded_len l = weight (val_of l.v.now)

abbrev pub decreases-total_len : goal.decreases-total_len
decreases-total_len l = weights (vals l.values.now)

abbrev pub invariant-total_len-loop-value : goal.invariant-total_len-loop-value
invariant-total_len-loop-value l = l.total ≡ min (sum (map encoded_len (vals (take l.value-index l.values)))) (2 ^ 64 - 1)
