-- Which kept values a program can have, by their forms.
use Rattle.std.specs.Prelude.{◌≡◌, ◌↔◌, ℕ, ◌^◌, ◌<◌, ◌≤◌, ◌+◌, Bool, FitsSigned, List, [], ◌∷◌, zero, suc, true, false, nat_lt}
use Rattle.std.specs.Prelude.{IsTrue, drop, length, slice_index_or, refl}
use Rattle.std.specs.Int.{w128}
use Rattle.std.specs.List.{All}
use Rattle.std.proofs.Common.{arith, rules, sym, ap, subst}
use Rattle.std.proofs.lemmas.Bool.{false≢true}
use Rattle.std.proofs.lemmas.List.{drop_all}
use Rattle.da_values.specs.declared.value.Value.{Value}
use Rattle.da_values.specs.declared.value.Value.TheVariants as kept
use Rattle.da_values.specs.Order.{val_cmp}
use Rattle.da_values.specs.Proper.{AreValues, IsValue, integer, more, none, process, set, text, truth, tuple}
use Rattle.da_values.specs.Sets.{Ascends}
use Rattle.da_values.specs.Str.{IsTextByte}
use Rattle.da_values.specs.Value.{val_of, vals}
use Rattle.da_values.specs.declared.val.Val.{Val}
use Rattle.da_values.proofs.ReadLaws.{proper_at}

-- what each kind of kept value must be
abbrev pub IsProperAt : Value → Type 0
IsProperAt (kept.Int number) = FitsSigned w128 number
IsProperAt (kept.Bool b) = Unit {0}
IsProperAt (kept.Text bytes) = All IsTextByte bytes
IsProperAt (kept.Proc p) = (0 < p) × (p < 2 ^ 16)
IsProperAt (kept.Tuple parts) = AreValues parts
IsProperAt (kept.Set elements) = AreValues elements × Ascends val_cmp elements

pub proper_is : (v : Value) → IsProperAt v ↔ IsValue (val_of v)
proper_is (kept.Int number) = (λ is. integer number is, proper_at (kept.Int number))
proper_is (kept.Bool b) = (λ is. truth b, proper_at (kept.Bool b))
proper_is (kept.Text bytes) = (λ is. text bytes is, proper_at (kept.Text bytes))
proper_is (kept.Proc p) = (λ is. process p is.0 is.1, proper_at (kept.Proc p))
proper_is (kept.Tuple parts) = (λ is. tuple parts is, proper_at (kept.Tuple parts))
proper_is (kept.Set elements) = (λ is. set elements is.0 is.1, proper_at (kept.Set elements))

-- a test of what its form must be is one of the value
pub tests_value : (v form : Value) (b : Bool) → v ≡ form → IsTrue b ↔ IsProperAt form → IsTrue b ↔ IsValue (val_of v)
tests_value v form b is exactly =
    let whole = proper_is form in
    subst (λ (x : Value). IsTrue b ↔ IsValue (val_of x)) (sym is) (λ passes. whole.0 (exactly.0 passes), λ value. exactly.1 (whole.1 value))

pub some_process : (p : ℕ) → p < 2 ^ 16 → IsTrue (nat_lt 0 p) ↔ ((0 < p) × (p < 2 ^ 16))
some_process p small = (λ passes. (search (rules, passes), small), λ both. search (rules, both.0))

-- VALUES ONE AFTER THE OTHER

-- from a place on, the value there comes first
next_is : (values : List Value) (i : ℕ) (x : Value) → i < length values → x ≡ slice_index_or values i x
    → vals (drop i values) ≡ val_of x ∷ vals (drop (suc i) values)
next_is [] i x inside is = absurd (omega (arith, inside))
next_is (v ∷ vs) zero x inside is = ap (λ (y : Value). val_of y ∷ vals vs) (sym is)
next_is (v ∷ vs) (suc i) x inside is = next_is vs i x (omega (arith, inside)) is

first_of : (x : Val) (xs : List Val) → AreValues (x ∷ xs) → IsValue x × AreValues xs
first_of x xs (more _ _ first others) = (first, others)

first_is : (values : List Val) (x : Val) (xs : List Val) → values ≡ x ∷ xs → AreValues values ↔ (IsValue x × AreValues xs)
first_is values x xs is = subst (λ (l : List Val). AreValues l ↔ (IsValue x × AreValues xs)) (sym is) (first_of x xs, λ both. more x xs both.0 both.1)

-- what is left decides
abbrev pub LeftDecides : List Value → ℕ → Type 0
LeftDecides values i = AreValues (vals (drop i values)) ↔ AreValues (vals values)

module _ (values : List Value) (i : ℕ) (x : Value) (b : Bool) (inside : i < length values) (is : x ≡ slice_index_or values i x)
    (tests : IsTrue b ↔ IsValue (val_of x)) where
  pub left_on : IsTrue b → LeftDecides values i → LeftDecides values (i + 1)
  left_on passes so_far =
      let split = first_is (vals (drop i values)) (val_of x) (vals (drop (suc i) values)) (next_is values i x inside is) in
      let next : suc i ≡ i + 1 = omega arith in
      subst (LeftDecides values) next (λ others. so_far.0 (split.1 (tests.0 passes, others)), λ whole. (split.0 (so_far.1 whole)).1)

  pub left_ends : (IsTrue b → ⊥) → LeftDecides values i → IsTrue false ↔ AreValues (vals values)
  left_ends not so_far =
      let split = first_is (vals (drop i values)) (val_of x) (vals (drop (suc i) values)) (next_is values i x inside is) in
      (λ never. absurd (false≢true never), λ whole. absurd (not (tests.1 (split.0 (so_far.1 whole)).0)))

pub none_left : (values : List Value) (i : ℕ) → length values ≤ i → LeftDecides values i → IsTrue true ↔ AreValues (vals values)
none_left values i past so_far = (λ passes. so_far.0 (subst (λ (l : List Value). AreValues (vals l)) (sym (drop_all i values past)) none), λ whole. refl)
