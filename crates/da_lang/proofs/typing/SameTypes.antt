-- Types are told to be the same exactly where they are equal.
use Rattle.std.specs.Prelude.{◌≡◌, refl, true, List, [], ◌∷◌, map}
use Rattle.std.specs.List.{AllByRecursion}
use Rattle.std.proofs.Common.{◌∙◌, ap, ap₂, sym, subst}
use Rattle.std.proofs.lemmas.Bool.{false≢true, and_parts, and_from}
use Rattle.da_lang.specs.declared.ty.Ty.{Ty, roll-Ty, out-Ty, roll-out-Ty}
use Rattle.da_lang.specs.declared.ty.Ty.TheVariants as t
use Rattle.da_lang.specs.declared.ty.Ty.TheOpen as layer
use Rattle.da_lang.specs.declared.ty.Ty.TheOpen.{Ty-F}
use Rattle.da_lang.specs.declared.ty.Ty.TheFolds.{ind-Ty, map-Ty}
use Rattle.da_lang.specs.Types.{same_type, all_same, tuple_same, set_same, int_in, bool_in, text_in, proc_in, parts_in, element_in}
use Rattle.da_lang.proofs.TermInduction.{bare, all_of-bare}
use Rattle.da_lang.proofs.typing.TypesAt.{same_type_at-Int, same_type_at-Bool, same_type_at-Text, same_type_at-Proc, same_type_at-Tuple, same_type_at-Set}
use Rattle.da_lang.proofs.WorldLaws.{ty_induction}

-- same types with this one are equal to it
abbrev IsTold : Ty → Type 0
IsTold x = (y : Ty) → same_type x y ≡ true → x ≡ y

from_layer : (y : Ty) (inner : Ty-F Ty) → out-Ty y ≡ inner → roll-Ty inner ≡ y
from_layer y inner is = ap roll-Ty (sym is) ∙ roll-out-Ty y

int_layer : (y : Ty-F Ty) → int_in y ≡ true → y ≡ layer.Int
int_layer layer.Int e = refl
int_layer _ e = absurd (false≢true e)

bool_layer : (y : Ty-F Ty) → bool_in y ≡ true → y ≡ layer.Bool
bool_layer layer.Bool e = refl
bool_layer _ e = absurd (false≢true e)

text_layer : (y : Ty-F Ty) → text_in y ≡ true → y ≡ layer.Text
text_layer layer.Text e = refl
text_layer _ e = absurd (false≢true e)

proc_layer : (y : Ty-F Ty) → proc_in y ≡ true → y ≡ layer.Proc
proc_layer layer.Proc e = refl
proc_layer _ e = absurd (false≢true e)

all_equal : (xs : List Ty) → AllByRecursion IsTold xs → (ys : List Ty) → all_same (map same_type xs) ys ≡ true → xs ≡ ys
all_equal [] each [] e = refl
all_equal [] each (y ∷ ys) e = absurd (false≢true e)
all_equal (x ∷ xs) each [] e = absurd (false≢true e)
all_equal (x ∷ xs) each (y ∷ ys) e =
    let both : (same_type x y ≡ true) × (all_same (map same_type xs) ys ≡ true) = and_parts (same_type x y) (all_same (map same_type xs) ys) e in
    ap₂ (λ (a : Ty) (b : List Ty). a ∷ b) (each.0 y both.0) (all_equal xs each.1 ys both.1)

tuple_layer : (xs : List Ty) → AllByRecursion IsTold xs → (y : Ty-F Ty) → tuple_same (map same_type xs) (parts_in y) ≡ true → y ≡ layer.Tuple xs
tuple_layer xs each (layer.Tuple ys) e = ap layer.Tuple (sym (all_equal xs each ys e))
tuple_layer xs each _ e = absurd (false≢true e)

set_layer : (x : Ty) → IsTold x → (y : Ty-F Ty) → set_same (same_type x) (element_in y) ≡ true → y ≡ layer.Set x
set_layer x told (layer.Set z) e = ap layer.Set (sym (told z e))
set_layer x told _ e = absurd (false≢true e)

type_case : (y : Ty-F ((x : Ty) × IsTold x)) → IsTold (roll-Ty (map-Ty ((x : Ty) × IsTold x) Ty (λ e. e.0) y))
type_case layer.Int = subst IsTold (sym t.rolls-Int) (λ y e. sym t.rolls-Int ∙ from_layer y layer.Int (int_layer (out-Ty y) (sym (same_type_at-Int y) ∙ e)))
type_case layer.Bool = subst IsTold (sym t.rolls-Bool) (λ y e. sym t.rolls-Bool ∙ from_layer y layer.Bool (bool_layer (out-Ty y) (sym (same_type_at-Bool y) ∙ e)))
type_case layer.Text = subst IsTold (sym t.rolls-Text) (λ y e. sym t.rolls-Text ∙ from_layer y layer.Text (text_layer (out-Ty y) (sym (same_type_at-Text y) ∙ e)))
type_case layer.Proc = subst IsTold (sym t.rolls-Proc) (λ y e. sym t.rolls-Proc ∙ from_layer y layer.Proc (proc_layer (out-Ty y) (sym (same_type_at-Proc y) ∙ e)))
type_case (layer.Tuple xs) = subst IsTold (sym (t.rolls-Tuple (bare xs))) (λ y e. sym (t.rolls-Tuple (bare xs)) ∙ from_layer y (layer.Tuple (bare xs)) (tuple_layer (bare xs) (all_of-bare IsTold xs) (out-Ty y) (sym (same_type_at-Tuple (bare xs) y) ∙ e)))
type_case (layer.Set x) = subst IsTold (sym (t.rolls-Set x.0)) (λ y e. sym (t.rolls-Set x.0) ∙ from_layer y (layer.Set x.0) (set_layer x.0 x.1 (out-Ty y) (sym (same_type_at-Set x.0 y) ∙ e)))

pub same_types_equal : (x y : Ty) → same_type x y ≡ true → x ≡ y
same_types_equal = ind-Ty IsTold (λ x y is. subst (λ z. IsTold (roll-Ty z)) is (type_case y))

all_same_themselves : (xs : List Ty) → AllByRecursion (λ x. same_type x x ≡ true) xs → all_same (map same_type xs) xs ≡ true
all_same_themselves [] each = refl
all_same_themselves (x ∷ xs) each = and_from (same_type x x) (all_same (map same_type xs) xs) each.0 (all_same_themselves xs each.1)

tuple_itself : (xs : List Ty) → AllByRecursion (λ x. same_type x x ≡ true) xs → same_type (t.Tuple xs) (t.Tuple xs) ≡ true
tuple_itself xs each = same_type_at-Tuple xs (t.Tuple xs) ∙ rw (t.outs-Tuple xs) (all_same_themselves xs each)

set_itself : (x : Ty) → same_type x x ≡ true → same_type (t.Set x) (t.Set x) ≡ true
set_itself x same = same_type_at-Set x (t.Set x) ∙ rw (t.outs-Set x) same

pub same_itself : (x : Ty) → same_type x x ≡ true
same_itself =
    ty_induction (λ x. same_type x x ≡ true)
    (same_type_at-Int t.Int ∙ rw t.outs-Int refl)
    (same_type_at-Bool t.Bool ∙ rw t.outs-Bool refl)
    (same_type_at-Text t.Text ∙ rw t.outs-Text refl)
    (same_type_at-Proc t.Proc ∙ rw t.outs-Proc refl)
    tuple_itself
    set_itself
