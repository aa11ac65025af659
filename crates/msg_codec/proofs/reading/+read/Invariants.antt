use Rattle.std.specs.Prelude.{◌+◌, ◌*◌}
use Rattle.da_values.specs.Value.{vals}
use Rattle.msg_codec.proofs.ReadLaws.{ReadSoFar}
use Rattle.msg_codec.proofs.reading.+read.Given as goal

-- a tuple reads its parts one level further in
abbrev pub decreases-values_at : goal.decreases-values_at
decreases-values_at l = 4 * l.depth + 3

abbrev pub decreases-value_at : goal.decreases-value_at
decreases-value_at l = 4 * l.depth + 2

abbrev pub decreases-behind : goal.decreases-behind
decreases-behind l = 4 * l.depth + 1

abbrev pub decreases-tuple_at : goal.decreases-tuple_at
decreases-tuple_at l = 4 * l.depth

abbrev pub decreases-set_at : goal.decreases-set_at
decreases-set_at l = 4 * l.depth

abbrev pub invariant-values_at-loop-place : goal.invariant-values_at-loop-place
invariant-values_at-loop-place l = ReadSoFar l.depth l.count l.bytes (vals l.values) l.left l._place
