use Rattle.std.proofs.Common.{◌≡◌, ◌+◌, ◌*◌, ◌++◌, map, take}
use Rattle.da_values.specs.Value.{val_of, vals, weight, weights}
use Rattle.msg_codec.specs.Packets.{joined, value_bytes}
use Rattle.msg_codec.proofs.writing.+put.Given as goal

-- a tuple or a set weighs more than its values
abbrev pub decreases-put_value : goal.decreases-put_value
decreases-put_value l = 2 * weight (val_of l.v.now)

abbrev pub decreases-put_tuple : goal.decreases-put_tuple
decreases-put_tuple l = 2 * weights l.parts.now + 1

abbrev pub decreases-put_set : goal.decreases-put_set
decreases-put_set l = 2 * weights l.elements.now + 1

abbrev pub decreases-put_values : goal.decreases-put_values
decreases-put_values l = 2 * weights (vals l.values.now)

abbrev pub invariant-put_values-loop-value : goal.invariant-put_values-loop-value
invariant-put_values-loop-value l = l.out ≡ l.fn.out ++ joined (map value_bytes (vals (take l.value-index l.values)))
