-- Two values are one, or they are not.
use Rattle.std.specs.Prelude.{◌≡◌, ◌⊎◌, Bool, true, false, refl}
use Rattle.std.proofs.Common.{sym, ◌∙◌, inl, inr}
use Rattle.da_values.specs.Keys.{same_value, same_value-is}
use Rattle.da_values.specs.declared.val.Val.{Val}

same_by : (x y : Val) (b : Bool) → same_value x y ≡ b → (x ≡ y) ⊎ (x ≡ y → ⊥)
same_by x y true is = inl ((same_value-is x y).0 is)
same_by x y false is = inr (λ e. let clash : true ≡ false = sym ((same_value-is x y).1 e) ∙ is in cc clash)

pub same_or_not : (x y : Val) → (x ≡ y) ⊎ (x ≡ y → ⊥)
same_or_not x y = same_by x y (same_value x y) refl
