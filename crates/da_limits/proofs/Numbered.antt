-- There are no more methods in an order than members of the class.
use Rattle.std.specs.Prelude.{◌≡◌, refl, ℕ, zero, suc, ◌<◌, ◌≤◌, ◌⊎◌, List, [], ◌∷◌, length, take, Option, Some, option_and_then, slice_get, slice_index, slice_index_or, Contains}
use Rattle.std.proofs.Common.{◌∙◌, ap, sym, subst, arith, inl, inr, ⊎_elim}
use Rattle.da_lang.specs.declared.tree.ClassTree.{ClassTree}
use Rattle.da_lang.specs.ClassParts.{Body, bodies, method_of}
use Rattle.da_lang.specs.NameRules.{method_names}
use Rattle.da_calls.specs.CallGraph.{IsOrdered}
use Rattle.da_calls.specs.CallMethods.{Numbering}
use Rattle.da_calls.proofs.CallBounds.{in_first, in_later, in_cases, in_none, some_same, method_in_names, fewer_names}
use Rattle.da_calls.proofs.CallMethods.{slice_get-some}

-- what is left of a list without one of its elements
record TakenOut {A : Type 0} (ys : List A) (y : A) : Type 0 where
  rest : List A
  sized : length ys ≡ suc (length rest)
  others : (z : A) → Contains ys z → (z ≡ y) ⊎ Contains rest z

out_first : {A : Type 0} (x : A) (ys : List A) (y : A) → x ≡ y → TakenOut (x ∷ ys) y
out_first x ys y same = record { rest = ys; sized = refl; others = λ z has. ⊎_elim (λ e. inl (sym e ∙ same)) (λ h. inr h) (in_cases x ys z has) }

out_later : {A : Type 0} (x : A) (ys : List A) (y : A) → TakenOut ys y → TakenOut (x ∷ ys) y
out_later x ys y out = record {
  rest = x ∷ out.rest;
  sized = ap suc out.sized;
  others = λ z has. ⊎_elim (λ e. inr (subst (λ w. Contains (x ∷ out.rest) w) e (in_first x out.rest))) (λ h. ⊎_elim (λ e. inl e) (λ k. inr (in_later x out.rest z k)) (out.others z h)) (in_cases x ys z has);
}

take_out : {A : Type 0} (ys : List A) (y : A) → Contains ys y → TakenOut ys y
take_out [] y has = absurd (in_none y has)
take_out (x ∷ ys) y has = ⊎_elim (λ same. out_first x ys y same) (λ inside. out_later x ys y (take_out ys y inside)) (in_cases x ys y has)

-- no element of a list is among those after it
Once : {A : Type 0} → List A → Type 0
Once [] = Unit {0}
Once (x ∷ xs) = (Contains xs x → ⊥) × Once xs

-- numbers that have different names among these are no more than these
record Names (number : List ℕ → Option ℕ) (names : List (List ℕ)) (k : ℕ) : Type 0 where
  name : List ℕ
  is : number name ≡ Some k
  among : Contains names name

other_names : (number : List ℕ → Option ℕ) (names : List (List ℕ)) (x k : ℕ) (first : Names number names x) (out : TakenOut names first.name) → (x ≡ k → ⊥) → Names number names k → Names number out.rest k
other_names number names x k first out differs has =
    record { name = has.name; is = has.is; among = ⊎_elim (λ e. absurd (differs (some_same x k (sym first.is ∙ ap number (sym e) ∙ has.is)))) (λ h. h) (out.others has.name has.among) }

fewer_numbers : (number : List ℕ → Option ℕ) (xs : List ℕ) (names : List (List ℕ)) → Once xs → ((k : ℕ) → Contains xs k → Names number names k) → length xs ≤ length names
unfolding Once
fewer_numbers number [] names once named = omega arith
fewer_numbers number (x ∷ xs) names once named =
    let first = named x (in_first x xs) in
    let out = take_out names first.name first.among in
    let rest = fewer_numbers number xs out.rest once.1
    (λ k has. other_names number names x k first out (λ same. once.0 (subst (λ w. Contains xs w) (sym same) has)) (named k (in_later x xs k has))) in
    omega (arith, out.sized, rest)

-- from places in a list
once_from : (xs : List ℕ) → ((i : ℕ) → i < length xs → Contains (take i xs) (slice_index xs i) → ⊥) → Once xs
unfolding Once
once_from [] fresh = tt
once_from (x ∷ xs) fresh = (
  (λ has. fresh (suc has.0) (omega (arith, has.1)) (subst (λ w. Contains (x ∷ take has.0 xs) w) (sym (same_at xs has.0 x has.1 has.2)) (in_first x (take has.0 xs)))),
  once_from xs (λ i inside has. fresh (suc i) (omega (arith, inside)) (in_later x (take i xs) (slice_index xs i) has)),
)
  where
    same_at : (ys : List ℕ) (i y : ℕ) → i < length ys → slice_index_or ys i y ≡ y → slice_index ys i ≡ y
    same_at [] i y inside is = absurd (omega (arith, inside))
    same_at (z ∷ ys) zero y inside is = is
    same_at (z ∷ ys) (suc i) y inside is = same_at ys i y (omega (arith, inside)) is

-- a number of a method has a name
numbered_name : (c : ClassTree) (methods : List Body) (number : List ℕ → Option ℕ) (k : ℕ) → Numbering (bodies c) methods number → k < length methods → Names number (method_names c) k
numbered_name c methods number k w inside =
    let known = w.named k inside in
    let body = slice_get-some methods k inside in
    let found : method_of c known.0 ≡ Some body.0 = w.found known.0 ∙ ap (λ n. option_and_then (slice_get methods) n) known.1 ∙ body.1 in
    record { name = known.0; is = known.1; among = method_in_names c known.0 body.0 found }

at_place : (xs : List ℕ) (y : ℕ) (has : Contains xs y) → slice_index xs has.0 ≡ y
at_place xs y has = go xs has.0 y has.1 has.2
  where
    go : (ys : List ℕ) (i z : ℕ) → i < length ys → slice_index_or ys i z ≡ z → slice_index ys i ≡ z
    go [] i z inside is = absurd (omega (arith, inside))
    go (x ∷ ys) zero z inside is = is
    go (x ∷ ys) (suc i) z inside is = go ys i z (omega (arith, inside)) is

pub order_short : (c : ClassTree) (methods : List Body) (number : List ℕ → Option ℕ) (order : List ℕ) → Numbering (bodies c) methods number → IsOrdered c methods number order → length order ≤ length c.members
order_short c methods number order w o =
    let few = fewer_numbers number order (method_names c) (once_from order o.once)
    (λ k has. numbered_name c methods number k w (subst (λ n. n < length methods) (at_place order k has) (o.within has.0 has.1))) in
    omega (arith, few, fewer_names c)
