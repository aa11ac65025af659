-- Types whose tuples have one part or more, and not more than the limit.
use Rattle.std.specs.Prelude.{ℕ, nat_le, Bool, true, ◌&&◌, length}
use Rattle.std.specs.List.{list_all}
use Rattle.da_lang.specs.declared.ty.Ty.{Ty}
use Rattle.da_lang.specs.declared.ty.Ty.TheFolds.{fold-Ty}
use Rattle.da_lang.specs.declared.ty.Ty.TheOpen as ty

abbrev pub is_few : ℕ → Bool
is_few count = nat_le 1 count && nat_le count 255

abbrev pub narrow_step : ty.Ty-F Bool → Bool
narrow_step ty.Int = true
narrow_step ty.Bool = true
narrow_step ty.Text = true
narrow_step ty.Proc = true
narrow_step (ty.Tuple parts) = is_few (length parts) && list_all (λ b. b) parts
narrow_step (ty.Set element) = element

unfoldable pub narrow : Ty → Bool
narrow = fold-Ty Bool narrow_step
