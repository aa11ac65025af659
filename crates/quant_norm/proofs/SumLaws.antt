-- Two lists with the same members, in which none stands twice, have the same sums.
use Rattle.std.specs.Prelude.{◌≡◌, ◌⊎◌, ◌+◌, ℕ, List, [], ◌∷◌, ◌++◌, map, sum, refl}
use Rattle.std.proofs.Common.{ap, sym, subst, ◌∙◌, inl, inr, arith}
use Rattle.std.proofs.lemmas.List.Sums.{sum_by-cons}
use Rattle.da_values.specs.Sets.{Has, Distinct, IsAlike}
use Rattle.da_values.proofs.Members.{Has-append_right}

module _ {A : Type 0} where
  -- a list, cut at one of its members
  cut_at : (ys : List A) (x : A) → Has ys x → (front : List A) × (back : List A) × (ys ≡ front ++ x ∷ back)
  cut_at [] x h = absurd h
  cut_at (y ∷ ys) x (inl e) = ([], ys, ap (λ z. z ∷ ys) (sym e))
  cut_at (y ∷ ys) x (inr h) = let (front, back, split) = cut_at ys x h in (y ∷ front, back, ap (λ zs. y ∷ zs) split)

  -- the member, or one of the others
  one_or_other : (front back : List A) (x z : A) → Has (front ++ x ∷ back) z → (z ≡ x) ⊎ Has (front ++ back) z
  one_or_other [] back x z h = h
  one_or_other (y ∷ front) back x z (inl e) = inr (inl e)
  one_or_other (y ∷ front) back x z (inr h) = elim (one_or_other front back x z h) [ inl e ↦ inl e | inr there ↦ inr (inr there) ]

  other_there : (front back : List A) (x z : A) → Has (front ++ back) z → Has (front ++ x ∷ back) z
  other_there [] back x z h = inr h
  other_there (y ∷ front) back x z (inl e) = inl e
  other_there (y ∷ front) back x z (inr h) = inr (other_there front back x z h)

  distinct_others : (front back : List A) (x : A) → Distinct (front ++ x ∷ back) → Distinct (front ++ back) × (Has (front ++ back) x → ⊥)
  distinct_others [] back x each = (each.1, each.0)
  distinct_others (y ∷ front) back x each =
      let (others, apart) = distinct_others front back x each.1 in (
        ((λ h. each.0 (other_there front back x y h)), others),
        λ h. elim h [
          | inl e ↦ each.0 (subst (Has (front ++ x ∷ back)) e (Has-append_right front (x ∷ back) x (inl refl)))
          | inr there ↦ apart there
        ],
      )

  module _ (f : A → ℕ) where
    sum_at : (x : A) (xs : List A) → sum (map f (x ∷ xs)) ≡ f x + sum (map f xs)
    sum_at x xs = sum_by-cons (λ k. k) (f x) (map f xs)

    sum_cut : (front back : List A) (x : A) → sum (map f (front ++ x ∷ back)) ≡ f x + sum (map f (front ++ back))
    sum_cut [] back x = sum_at x back
    sum_cut (y ∷ front) back x = omega (arith, sum_at y (front ++ x ∷ back), sum_at y (front ++ back), sum_cut front back x)

    none_left : (ys : List A) → ((z : A) → Has ys z → ⊥) → sum (map f ys) ≡ sum (map f [])
    none_left [] none = refl
    none_left (y ∷ ys) none = absurd (none y (inl refl))

    pub same_sum : (xs ys : List A) → Distinct xs → Distinct ys → IsAlike xs ys → sum (map f xs) ≡ sum (map f ys)
    same_sum [] ys each other alike = sym (none_left ys (λ z h. (alike z).1 h))
    same_sum (x ∷ xs) ys each other alike =
        let (front, back, split) = cut_at ys x ((alike x).0 (inl refl)) in
        let (others, apart) = distinct_others front back x (subst Distinct split other) in
        let into : (z : A) → Has xs z → Has (front ++ back) z =
        λ z h. elim (one_or_other front back x z (subst (λ zs. Has zs z) split ((alike z).0 (inr h)))) [
          | inl e ↦ absurd (each.0 (subst (Has xs) e h))
          | inr there ↦ there
        ] in
        let from : (z : A) → Has (front ++ back) z → Has xs z =
        λ z h. elim ((alike z).1 (subst (λ zs. Has zs z) (sym split) (other_there front back x z h))) [
          | inl e ↦ absurd (apart (subst (Has (front ++ back)) e h))
          | inr there ↦ there
        ] in
        sum_at x xs
        ∙ ap (λ n. f x + n) (same_sum xs (front ++ back) each.1 others (λ z. (into z, from z)))
        ∙ sym (ap (λ zs. sum (map f zs)) split ∙ sum_cut front back x)
