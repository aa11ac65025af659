use Rattle.std.proofs.Common.{◌+◌, ◌*◌, length}
use Rattle.da_values.specs.Value.{vals}
use Rattle.da_values.proofs.ItemLaws.{ReadSoFar}
use Rattle.da_values.proofs.read.+read.Given as goal

abbrev pub decreases-value_at : goal.decreases-value_at
decreases-value_at l = 3 * l.depth + 2

abbrev pub decreases-parts_at : goal.decreases-parts_at
decreases-parts_at l = 3 * l.depth + 1

abbrev pub decreases-elements_at : goal.decreases-elements_at
decreases-elements_at l = 3 * l.depth + 1

abbrev pub decreases-items_at : goal.decreases-items_at
decreases-items_at l = 3 * l.depth + 3

abbrev pub invariant-items_at-loop-items : goal.invariant-items_at-loop-items
invariant-items_at-loop-items l = ReadSoFar l.depth l.bytes (vals l.items) l.left

abbrev pub decreases-items_at-loop-items : goal.decreases-items_at-loop-items
decreases-items_at-loop-items l = length l.left
