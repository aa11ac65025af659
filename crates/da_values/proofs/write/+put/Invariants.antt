use Rattle.std.proofs.Common.{◌≡◌, ◌++◌, map, take}
use Rattle.da_values.specs.Text.{separated, value_text}
use Rattle.da_values.specs.Value.{val_of, vals, weight, weights}
use Rattle.da_values.proofs.write.+put.Given as goal

abbrev pub decreases-put_value : goal.decreases-put_value
decreases-put_value l = weight (val_of l.v.now)

abbrev pub decreases-put_values : goal.decreases-put_values
decreases-put_values l = weights (vals l.values.now)

abbrev pub invariant-put_values-loop-place : goal.invariant-put_values-loop-place
invariant-put_values-loop-place l = l.out ≡ l.fn.out ++ separated (map value_text (vals (take l.place l.values)))
