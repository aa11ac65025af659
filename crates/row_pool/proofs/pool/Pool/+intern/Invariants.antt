use Rattle.std.proofs.Common.{◌+◌, ◌*◌, take}
use Rattle.da_values.specs.Value.{val_of, vals, weight, weights}
use Rattle.row_pool.specs.Pool.{AreGiven}
use Rattle.row_pool.proofs.pool.Pool.+intern.Given as goal

abbrev pub decreases-intern_value : goal.decreases-intern_value
decreases-intern_value l = 3 * weight (val_of l.v.now) + 1

abbrev pub decreases-intern_children : goal.decreases-intern_children
decreases-intern_children l = 3 * weight (val_of l.v.now)

abbrev pub decreases-intern_each : goal.decreases-intern_each
decreases-intern_each l = 3 * weights (vals l.values.now)

abbrev pub decreases-intern_next : goal.decreases-intern_next
decreases-intern_next l = 3 * weight (val_of l.v.now) + 2

abbrev pub invariant-intern_each-loop-value : goal.invariant-intern_each-loop-value
invariant-intern_each-loop-value l = AreGiven l.fn.self l.self (vals (take l.value-index l.values)) l.keys
