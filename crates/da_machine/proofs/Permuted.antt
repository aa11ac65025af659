-- A set does not depend on the order in which its elements come.
use Rattle.std.proofs.Common.{◌≡◌, List, [], ◌∷◌, ◌++◌, refl, sym, ap, ◌∙◌, subst, append_assoc}
use Rattle.std.specs.List.Sorted.{IsPermutation}
use Rattle.std.proofs.lemmas.List.Sorted.{Contains-permutation, IsPermutation-sym}
use mathlib.Core.List.{append-nil}
use Rattle.da_values.specs.declared.val.Val.{Val}
use Rattle.da_values.specs.declared.value.Value.{Value}
use Rattle.da_values.specs.Order.{val_cmp}
use Rattle.da_values.specs.Sets.{Has, canon, set_insert}
use Rattle.da_values.specs.Value.{val_of, vals}
use Rattle.da_values.proofs.Members.{Has-at, Has-map, of_map, place_of}
use Rattle.da_values.proofs.OrderLaws.{val_order, same_from_val_cmp}
use Rattle.da_values.proofs.SetLaws.{canon_alike}

still_has : (xs ys : List Value) (z : Val) → IsPermutation xs ys → Has (vals xs) z → Has (vals ys) z
still_has xs ys z moved has =
    let made = of_map val_of xs z has in
    let place = place_of xs made.0 made.0 made.1 in
    let found = Contains-permutation xs ys made.0 moved place in
    subst (Has (vals ys)) (sym made.2) (Has-map val_of ys made.0 (subst (Has ys) found.2 (Has-at ys found.0 made.0 found.1)))

pub canon_permuted : (xs ys : List Value) → IsPermutation xs ys → canon val_cmp (vals ys) ≡ canon val_cmp (vals xs)
canon_permuted xs ys moved =
    canon_alike val_cmp val_order same_from_val_cmp (vals ys) (vals xs)
    (λ z. (still_has ys xs z (IsPermutation-sym xs ys moved), still_has xs ys z moved))

-- values that are taken off from the last on, and the set of those that were taken
pub record FromLast (values left : List Value) (set : List Val) : Type 0 where
  pub taken : List Value
  pub whole : left ++ taken ≡ values
  pub made : set ≡ canon val_cmp (vals taken)

pub from_last_begins : (values : List Value) → FromLast values values []
from_last_begins values = record { taken = []; whole = append-nil values; made = refl }

pub from_last_on : (values left rest : List Value) (set : List Val) (v : Value) → FromLast values left set → left ≡ rest ++ v ∷ [] → FromLast values rest (set_insert val_cmp set (val_of v))
from_last_on values left rest set v came is = record {
  taken = v ∷ came.taken;
  whole = sym (append_assoc rest (v ∷ []) came.taken) ∙ ap (λ l. l ++ came.taken) (sym is) ∙ came.whole;
  made = ap (λ l. set_insert val_cmp l (val_of v)) came.made;
}

pub from_last_done : (values left : List Value) (set : List Val) → FromLast values left set → left ≡ [] → set ≡ canon val_cmp (vals values)
from_last_done values left set came none = came.made ∙ ap (λ l. canon val_cmp (vals l)) (ap (λ l. l ++ came.taken) (sym none) ∙ came.whole)
