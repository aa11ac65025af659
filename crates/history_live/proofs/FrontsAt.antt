-- The first members of a list, with one more.
use Rattle.std.specs.Prelude.{◌≡◌, ◌⊎◌, ◌<◌, ◌≤◌, ◌+◌, ℕ, zero, suc, List, [], ◌∷◌, ◌++◌, length, take, get_or, refl}
use Rattle.std.proofs.Common.{add-one, ap, sym, subst, ◌∙◌, inl, inr, arith}
use Rattle.std.proofs.Math.Seq.{take-suc}
use Rattle.std.proofs.lemmas.List.{take_all}
use Rattle.da_values.specs.Sets.{Has}
use Rattle.da_values.proofs.Members.{of_append}

module _ {A : Type 0} where
  pub one_more : (xs : List A) (i : ℕ) (x : A) → i < length xs → x ≡ get_or xs i x → take (i + 1) xs ≡ take i xs ++ x ∷ []
  one_more xs i x inside here = ap (λ n. take n xs) (add-one i) ∙ take-suc xs i x inside ∙ ap (λ z. take i xs ++ z ∷ []) (sym here)

  pub of_one_more : (xs : List A) (i : ℕ) (x z : A) → i < length xs → x ≡ get_or xs i x → Has (take (i + 1) xs) z → Has (take i xs) z ⊎ (z ≡ x)
  of_one_more xs i x z inside here h =
      elim (of_append (take i xs) (x ∷ []) z (subst (λ zs. Has zs z) (one_more xs i x inside here) h)) [
        | inl before ↦ inl before
        | inr last ↦ elim last [ inl e ↦ inr e | inr none ↦ absurd none ]
      ]

  got : (xs : List A) (i : ℕ) (x : A) → i < length xs → Has xs (get_or xs i x)
  got [] i x inside = absurd (omega (arith, inside))
  got (y ∷ ys) zero x inside = inl refl
  got (y ∷ ys) (suc i) x inside = inr (got ys i x (omega (arith, inside)))

  pub has_here : (xs : List A) (i : ℕ) (x : A) → i < length xs → x ≡ get_or xs i x → Has xs x
  has_here xs i x inside here = subst (Has xs) (sym here) (got xs i x inside)

  -- what is not among the first ones
  pub not_more : (xs : List A) (i : ℕ) (x z : A) → i < length xs → x ≡ get_or xs i x → (z ≡ x → ⊥) → (Has (take i xs) z → ⊥) → Has (take (i + 1) xs) z → ⊥
  not_more xs i x z inside here differs none h = elim (of_one_more xs i x z inside here h) [ inl before ↦ none before | inr same ↦ differs same ]

  pub not_there : (xs : List A) (i : ℕ) (z : A) → length xs ≤ i → (Has (take i xs) z → ⊥) → Has xs z → ⊥
  not_there xs i z past none h = none (subst (λ zs. Has zs z) (sym (take_all i xs past)) h)
