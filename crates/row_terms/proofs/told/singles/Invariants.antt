use Rattle.std.proofs.Common.{◌≡◌, take}
use Rattle.da_values.specs.Order.{val_cmp}
use Rattle.da_values.specs.Sets.{set_image}
use Rattle.da_values.specs.Value.{vals}
use Rattle.row_terms.specs.Told.{single}
use Rattle.row_terms.proofs.told.singles.Given as goal

abbrev pub invariant-loop-v : goal.invariant-loop-v
invariant-loop-v l = l.set ≡ set_image val_cmp single (vals (take l.v-index l.values))
