use Rattle.std.proofs.Common.{◌≡◌, ◌≤◌, length}
use Rattle.da_values.specs.Order.{row_cmp}
use Rattle.da_values.specs.Value.{val_of, vals, weight, weights}
use Rattle.da_values.proofs.cmp.+cmp.Given as goal

abbrev pub decreases-cmp_values : goal.decreases-cmp_values
decreases-cmp_values l = weight (val_of l.a.now)

abbrev pub decreases-cmp_rows : goal.decreases-cmp_rows
decreases-cmp_rows l = weights (vals l.a.now)

abbrev pub invariant-cmp_rows-loop-left : goal.invariant-cmp_rows-loop-left
invariant-cmp_rows-loop-left l = (row_cmp (vals l.a) (vals l.b) ≡ row_cmp (vals l.left) (vals l.right)) × (weights (vals l.left) ≤ weights (vals l.a))

abbrev pub decreases-cmp_rows-loop-left : goal.decreases-cmp_rows-loop-left
decreases-cmp_rows-loop-left l = length l.left
