use Rattle.std.proofs.Common.{◌≡◌, ℕ, ◌+◌, ◌<◌, slice_index_or}
use Rattle.std.specs.declared.cmp.Ordering.TheVariants.{Less}
use Rattle.da_values.specs.declared.value.Value.{Value}
use Rattle.da_values.specs.Order.{val_cmp}
use Rattle.da_values.specs.Value.{val_of}
use Rattle.da_values.proofs.read.ascends.Given as goal

-- each value up to this place is less than the next
abbrev pub invariant-loop-at : goal.invariant-loop-at
invariant-loop-at l = (k : ℕ) (d : Value) → k + 1 < l.at → val_cmp (val_of (slice_index_or l.values k d)) (val_of (slice_index_or l.values (k + 1) d)) ≡ Less
