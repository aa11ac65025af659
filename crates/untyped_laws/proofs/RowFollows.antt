-- The slots that take the types of a row, one by one.
use Rattle.std.specs.Prelude.{◌≡◌, refl, ℕ, List, [], ◌∷◌, map, Option, Some, None}
use Rattle.std.proofs.Common.{◌∙◌, ap, sym}
use Rattle.da_lang.specs.declared.ty.Ty.{Ty}
use Rattle.da_lang.specs.Typing.{Slots, with_type, with_types, with_row_types}
use Rattle.untyped_laws.specs.Follows.{with_found, types_in}
use Rattle.untyped_laws.proofs.FollowLaws.{with_none}
use Rattle.untyped_laws.proofs.ListLaws.{head_or, rest_of}

module _ (S : Type 0) (found : S → Option Ty) where
  abbrev slots_of : List (ℕ × S) → List ℕ
  slots_of ps = map (λ p. p.0) ps

  -- no row
  none_found : (ps : List (ℕ × S)) → map (λ p. found p.1) ps ≡ types_in (slots_of ps) None → (slots : Slots) → slots ≡ with_found S found ps slots
  none_found [] e slots = refl
  none_found (p ∷ ps) e slots =
      let none : found p.1 ≡ None = ap (head_or None) e in
      none_found ps (ap rest_of e) slots ∙ ap (with_found S found ps) (sym (ap (λ o. with_type p.0 o slots) none ∙ with_none p.0 slots))

  -- a row that is too short gives the others none
  end_found : (ps : List (ℕ × S)) → map (λ p. found p.1) ps ≡ types_in (slots_of ps) (Some []) → (slots : Slots) → slots ≡ with_found S found ps slots
  end_found [] e slots = refl
  end_found (p ∷ ps) e slots =
      let none : found p.1 ≡ None = ap (head_or None) e in
      end_found ps (ap rest_of e) slots ∙ ap (with_found S found ps) (sym (ap (λ o. with_type p.0 o slots) none ∙ with_none p.0 slots))

  some_found : (ps : List (ℕ × S)) (types : List Ty) → map (λ p. found p.1) ps ≡ types_in (slots_of ps) (Some types) → (slots : Slots) → with_types (slots_of ps) types slots ≡ with_found S found ps slots
  some_found [] types e slots = refl
  some_found (p ∷ ps) [] e slots = end_found (p ∷ ps) e slots
  some_found (p ∷ ps) (ty ∷ types) e slots =
      let first : found p.1 ≡ Some ty = ap (head_or None) e in
      some_found ps types (ap rest_of e) (with_type p.0 (Some ty) slots) ∙ ap (λ o. with_found S found ps (with_type p.0 o slots)) (sym first)

  pub row_follows : (ps : List (ℕ × S)) (row : Option (List Ty)) → map (λ p. found p.1) ps ≡ types_in (slots_of ps) row → (slots : Slots) → with_row_types (slots_of ps) row slots ≡ with_found S found ps slots
  row_follows ps None e slots = none_found ps e slots
  row_follows ps (Some types) e slots = some_found ps types e slots
