-- Values that the order does not tell apart are equal.
use Rattle.std.specs.Prelude.{◌≡◌}
use Rattle.std.specs.declared.cmp.Ordering.TheVariants.{Equal}
use Rattle.std.proofs.lemmas.Cmp.{tied_itself}
use Rattle.da_values.specs.declared.value.Value.{Value}
use Rattle.da_values.specs.Order.{val_cmp}
use Rattle.da_values.specs.Value.{val_of}
use Rattle.da_values.proofs.OrderLaws.{val_order, same_from_val_cmp}
use Rattle.da_values.proofs.ViewLaws.{val_of_injective}

pub values_tell : (v w : Value) → val_cmp (val_of v) (val_of w) ≡ Equal → v ≡ w
values_tell v w e = val_of_injective v w (same_from_val_cmp (val_of v) (val_of w) e)

pub values_tie : (v : Value) → val_cmp (val_of v) (val_of v) ≡ Equal
values_tie v = tied_itself val_order (val_of v)
