-- Lists that grow, and of which members are replaced.
use Rattle.std.proofs.Common.{◌≡◌, ℕ, zero, suc, ◌+◌, ◌<◌, ◌≤◌, List, [], ◌∷◌, ◌++◌, length, Some, refl, ap, ◌∙◌, arith, length-append, inl, inr, ◌⊎◌, ⊎_elim}
use Rattle.std.specs.Prelude.{slice_get, slice_set}
use Rattle.std.proofs.Math.ListN.{length-set}
use Rattle.std.proofs.lemmas.Bool.{cases_lt}
use Rattle.code_gen.specs.Made.{Stays}

module _ {A : Type 0} where
  pub in_front : (xs ys : List A) (k : ℕ) → k < length xs → slice_get (xs ++ ys) k ≡ slice_get xs k
  in_front [] ys k inside = absurd (omega arith)
  in_front (x ∷ xs) ys zero inside = refl
  in_front (x ∷ xs) ys (suc k) inside = in_front xs ys k (omega arith)

  pub at_the_end : (xs : List A) (y : A) → slice_get (xs ++ y ∷ []) (length xs) ≡ Some y
  at_the_end [] y = refl
  at_the_end (x ∷ xs) y = at_the_end xs y

  pub where_joined : (xs : List A) (y : A) (ys : List A) → slice_get (xs ++ y ∷ ys) (length xs) ≡ Some y
  where_joined [] y ys = refl
  where_joined (x ∷ xs) y ys = where_joined xs y ys

  pub after_front : (xs ys : List A) (k : ℕ) → slice_get (xs ++ ys) (length xs + k) ≡ slice_get ys k
  after_front [] ys k = let e : 0 + k ≡ k = omega arith in ap (slice_get ys) e
  after_front (x ∷ xs) ys k = let e : length (x ∷ xs) + k ≡ suc (length xs + k) = omega arith in ap (slice_get (x ∷ (xs ++ ys))) e ∙ after_front xs ys k

  pub one_longer : (xs : List A) (y : A) → length (xs ++ y ∷ []) ≡ length xs + 1
  one_longer xs y = omega (arith, length-append xs (y ∷ []))

  pub where_set : (xs : List A) (k : ℕ) (y : A) → k < length xs → slice_get (slice_set xs k y) k ≡ Some y
  where_set [] k y inside = absurd (omega arith)
  where_set (x ∷ xs) zero y inside = refl
  where_set (x ∷ xs) (suc k) y inside = where_set xs k y (omega arith)

  pub elsewhere : (xs : List A) (k : ℕ) (y : A) (j : ℕ) → (j < k) ⊎ (k < j) → slice_get (slice_set xs k y) j ≡ slice_get xs j
  elsewhere [] k y j apart = refl
  elsewhere (x ∷ xs) zero y zero (inl less) = absurd (omega arith)
  elsewhere (x ∷ xs) zero y zero (inr less) = absurd (omega arith)
  elsewhere (x ∷ xs) zero y (suc j) apart = refl
  elsewhere (x ∷ xs) (suc k) y zero apart = refl
  elsewhere (x ∷ xs) (suc k) y (suc j) (inl less) = elsewhere xs k y j (inl (omega arith))
  elsewhere (x ∷ xs) (suc k) y (suc j) (inr less) = elsewhere xs k y j (inr (omega arith))

  pub stays_as_it_is : (xs : List A) → Stays A xs xs
  stays_as_it_is xs = record { same = λ k inside. refl; longer = omega arith }

  pub stays_with_more : (xs : List A) (y : A) → Stays A xs (xs ++ y ∷ [])
  stays_with_more xs y = record { same = λ k inside. in_front xs (y ∷ []) k inside; longer = omega (arith, one_longer xs y) }

  pub stays_on : (xs ys zs : List A) → Stays A xs ys → Stays A ys zs → Stays A xs zs
  stays_on xs ys zs first second = record { same = λ k inside. second.same k (omega (arith, first.longer)) ∙ first.same k inside; longer = omega (arith, first.longer, second.longer) }

  pub stays_where_set : (xs ys : List A) (k : ℕ) (y : A) → Stays A xs ys → length xs ≤ k → Stays A xs (slice_set ys k y)
  stays_where_set xs ys k y stays behind = record { same = λ j inside. elsewhere ys k y j (inl (omega arith)) ∙ stays.same j inside; longer = omega (arith, stays.longer, length-set ys k y) }

-- a number is less than another, the same or more
pub lies : (j k : ℕ) → (j < k) ⊎ ((j ≡ k) ⊎ (k < j))
lies j k = ⊎_elim (λ less. inl less) (λ no_less. ⊎_elim (λ more. inr (inr more)) (λ no_more. inr (inl (omega arith))) (cases_lt k j)) (cases_lt j k)
