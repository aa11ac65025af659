-- The order of two kept values, by what they are made of.
use Rattle.std.specs.Prelude.{◌≡◌, ℕ, ℤ, Bool, List, refl}
use Rattle.std.proofs.Common.{ap, ◌∙◌}
use Rattle.std.specs.Cmp.Lexicographic.{slice_cmp}
use Rattle.std.specs.Ordering.{nat_cmp, int_cmp, bool_cmp}
use Rattle.std.specs.declared.cmp.Ordering.{Ordering}
use Rattle.da_values.specs.declared.val.Val.{Val, out-Val}
use Rattle.da_values.specs.declared.val.Val.TheVariants as val
use Rattle.da_values.specs.declared.value.Value.{Value}
use Rattle.da_values.specs.declared.value.Value.TheVariants.{Int, Bool as Truth, Text, Proc, Tuple, Set}
use Rattle.da_values.specs.Layer.{layer, out-val_of}
use Rattle.da_values.specs.Order.{kind, val_cmp, row_cmp}
use Rattle.da_values.specs.Value.{val_of}
use Rattle.da_values.proofs.OrderLaws.{cmp_layers, val_cmp-out, list_cmp-map}

abbrev pub cmp_at : Value → Value → Ordering
cmp_at (Int i) (Int j) = int_cmp i j
cmp_at (Truth b) (Truth c) = bool_cmp b c
cmp_at (Text s) (Text t) = slice_cmp nat_cmp s t
cmp_at (Proc p) (Proc q) = nat_cmp p q
cmp_at (Tuple xs) (Tuple ys) = row_cmp xs ys
cmp_at (Set xs) (Set ys) = row_cmp xs ys
cmp_at a b = nat_cmp (kind (layer a)) (kind (layer b))

at_layers : (a b : Value) → cmp_layers (layer a) (layer b) ≡ cmp_at a b
at_layers (Int i) (Int j) = refl
at_layers (Truth b) (Truth c) = refl
at_layers (Text s) (Text t) = refl
at_layers (Proc p) (Proc q) = refl
at_layers (Tuple xs) (Tuple ys) = list_cmp-map xs ys
at_layers (Set xs) (Set ys) = list_cmp-map xs ys
at_layers _ _ = refl

pub val_cmp_of : (a b : Value) → val_cmp (val_of a) (val_of b) ≡ cmp_at a b
val_cmp_of a b =
    val_cmp-out (val_of a) (val_of b)
    ∙ ap (λ inner. cmp_layers inner (out-Val (val_of b))) (out-val_of a)
    ∙ ap (cmp_layers (layer a)) (out-val_of b)
    ∙ at_layers a b

-- the same at two values of one kind
pub val_cmp-Int : (i j : ℤ) → val_cmp (val.Int i) (val.Int j) ≡ int_cmp i j
val_cmp-Int i j = val_cmp_of (Int i) (Int j)

pub val_cmp-Bool : (b c : Bool) → val_cmp (val.Bool b) (val.Bool c) ≡ bool_cmp b c
val_cmp-Bool b c = val_cmp_of (Truth b) (Truth c)

pub val_cmp-Text : (s t : List ℕ) → val_cmp (val.Text s) (val.Text t) ≡ slice_cmp nat_cmp s t
val_cmp-Text s t = val_cmp_of (Text s) (Text t)

pub val_cmp-Proc : (p q : ℕ) → val_cmp (val.Proc p) (val.Proc q) ≡ nat_cmp p q
val_cmp-Proc p q = val_cmp_of (Proc p) (Proc q)

pub val_cmp-Tuple : (xs ys : List Val) → val_cmp (val.Tuple xs) (val.Tuple ys) ≡ row_cmp xs ys
val_cmp-Tuple xs ys = val_cmp_of (Tuple xs) (Tuple ys)

pub val_cmp-Set : (xs ys : List Val) → val_cmp (val.Set xs) (val.Set ys) ≡ row_cmp xs ys
val_cmp-Set xs ys = val_cmp_of (Set xs) (Set ys)
