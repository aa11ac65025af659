-- Whether a value is that of a term, one form of term at a time.
use Rattle.std.specs.Prelude.{◌≡◌, ℕ, ◌≤◌, ◌==◌, Bool, true, false, List, [], ◌∷◌, length, drop, map, refl}
use Rattle.std.specs.Ordering.{eq_by_cmp, is_eq, ordering_then}
use Rattle.std.specs.declared.cmp.Ordering.{Ordering}
use Rattle.std.specs.declared.cmp.Ordering.TheVariants.{Less, Equal, Greater}
use Rattle.std.proofs.Common.{ap, sym, ◌∙◌, rules}
use Rattle.std.proofs.lemmas.List.{at_drop_all}
use Rattle.da_values.specs.declared.val.Val.{Val}
use Rattle.da_values.specs.declared.val.Val.TheVariants as val
use Rattle.da_values.specs.declared.value.Value.{Value}
use Rattle.da_values.specs.declared.value.Value.TheVariants as kept
use Rattle.da_values.specs.Order.{row_cmp, val_cmp}
use Rattle.da_values.specs.Value.{val_of, vals}
use Rattle.da_values.proofs.OrderAt.{val_cmp_of}
use Rattle.da_lang.specs.declared.query.Term.{Term}
use Rattle.da_lang.specs.declared.query.Term.TheVariants as term
use Rattle.da_lang.specs.Matching.{Row, is_same, term_value}
use Rattle.da_lang.proofs.MatchingLaws.{term-Const, term-Me, term-Slot, term-Part, term-Tuple, term-Foreign}

-- a tuple against a tuple, and a value of another kind against one
abbrev pub same_as_tuple : Value → List Val → Bool
same_as_tuple (kept.Tuple xs) ys = eq_by_cmp row_cmp xs ys
same_as_tuple _ ys = false

pub no_tuple : (v : Value) (ys : List Val) → ((xs : List Val) → v ≡ kept.Tuple xs → ⊥) → same_as_tuple v ys ≡ false
no_tuple (kept.Tuple xs) ys other = absurd (other xs refl)
no_tuple (kept.Int number) ys other = refl
no_tuple (kept.Bool truth) ys other = refl
no_tuple (kept.Text text) ys other = refl
no_tuple (kept.Proc process) ys other = refl
no_tuple (kept.Set elements) ys other = refl

pub is_same-Tuple : (v : Value) (ys : List Val) → is_same (val_of v) (val.Tuple ys) ≡ same_as_tuple v ys
is_same-Tuple (kept.Int number) ys = ap is_eq (val_cmp_of (kept.Int number) (kept.Tuple ys))
is_same-Tuple (kept.Bool truth) ys = ap is_eq (val_cmp_of (kept.Bool truth) (kept.Tuple ys))
is_same-Tuple (kept.Text text) ys = ap is_eq (val_cmp_of (kept.Text text) (kept.Tuple ys))
is_same-Tuple (kept.Proc process) ys = ap is_eq (val_cmp_of (kept.Proc process) (kept.Tuple ys))
is_same-Tuple (kept.Tuple parts) ys = ap is_eq (val_cmp_of (kept.Tuple parts) (kept.Tuple ys))
is_same-Tuple (kept.Set elements) ys = ap is_eq (val_cmp_of (kept.Set elements) (kept.Tuple ys))

pub ruleset terms_at = (term-Const, term-Me, term-Slot, term-Part, term-Tuple, term-Foreign, is_same-Tuple)

-- rows are the same where their first values are and the others are
then_same : (a b : Ordering) → is_eq a ≡ true → is_eq (ordering_then a b) ≡ is_eq b
then_same Equal b e = refl
then_same Less b e = absurd (cc)
then_same Greater b e = absurd (cc)

then_other : (a b : Ordering) → is_eq a ≡ false → is_eq (ordering_then a b) ≡ false
then_other Less b e = refl
then_other Greater b e = refl
then_other Equal b e = absurd (cc)

pub first_same : (x y : Val) (xs ys : List Val) → is_same x y ≡ true → eq_by_cmp row_cmp (x ∷ xs) (y ∷ ys) ≡ eq_by_cmp row_cmp xs ys
first_same x y xs ys e = then_same (val_cmp x y) (row_cmp xs ys) e

pub first_other : (x y : Val) (xs ys : List Val) → is_same x y ≡ false → eq_by_cmp row_cmp (x ∷ xs) (y ∷ ys) ≡ false
first_other x y xs ys e = then_other (val_cmp x y) (row_cmp xs ys) e

pub ruleset one_by_one = (first_same, first_other)

-- where no term is left the answer is whether no value is
end_same : (left : List Value) → (length left == 0) ≡ eq_by_cmp row_cmp (vals left) []
end_same [] = refl
end_same (v ∷ vs) = search rules

pub terms_end : (value : Term → Val) (terms : List Term) (values left : List Value) (i : ℕ) (b : Bool) → length terms ≤ i
    → eq_by_cmp row_cmp (vals values) (map value terms) ≡ eq_by_cmp row_cmp (vals left) (map value (drop i terms))
    → b ≡ (length left == 0) → b ≡ eq_by_cmp row_cmp (vals values) (map value terms)
terms_end value terms values left i b end so_far empty =
    empty ∙ (end_same left ∙ sym (so_far ∙ at_drop_all (λ ts. eq_by_cmp row_cmp (vals left) (map value ts)) terms i end))

-- a term that is a tuple
module _ (me : ℕ) (slots : List Val) (row : Row) (t : Term) (v : Value) (terms : List Term) (is : t ≡ term.Tuple terms) where
  by_terms : is_same (val_of v) (term_value me slots row t) ≡ same_as_tuple v (map (term_value me slots row) terms)
  by_terms = ap (λ u. is_same (val_of v) (term_value me slots row u)) is ∙ (ap (is_same (val_of v)) (term-Tuple me slots row terms) ∙ is_same-Tuple v (map (term_value me slots row) terms))

  pub same_tuple : (xs : List Val) (ts : List Term) (ys : List Val) (b : Bool) → v ≡ kept.Tuple xs → ts ≡ terms → ys ≡ xs
      → b ≡ eq_by_cmp row_cmp ys (map (term_value me slots row) ts) → b ≡ is_same (val_of v) (term_value me slots row t)
  same_tuple xs ts ys b v_is ts_is ys_is same =
      same ∙ (ap (λ zs. eq_by_cmp row_cmp zs (map (term_value me slots row) ts)) ys_is
      ∙ (ap (λ us. eq_by_cmp row_cmp xs (map (term_value me slots row) us)) ts_is
      ∙ sym (by_terms ∙ ap (λ w. same_as_tuple w (map (term_value me slots row) terms)) v_is)))

  pub other_kind : ((xs : List Val) → v ≡ kept.Tuple xs → ⊥) → false ≡ is_same (val_of v) (term_value me slots row t)
  other_kind other = sym (by_terms ∙ no_tuple v (map (term_value me slots row) terms) other)
