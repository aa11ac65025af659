-- Members of lists, and what stands at a place of them.
use Rattle.std.specs.Prelude.{◌≡◌, ℕ, zero, suc, ◌+◌, Bool, true, cond, List, [], ◌∷◌, ◌++◌, length, take, filter, slice_get, Some, refl}
use Rattle.std.proofs.Common.{sym, ap, ◌∙◌, subst, inl, inr, arith}
use Rattle.std.proofs.lemmas.Bool.{cond_both}
use Rattle.std.proofs.lemmas.Option.{none-some}
use Rattle.da_values.specs.Sets.{Has}

module _ {A : Type 0} where
  -- A PLACE

  pub still_at : (xs ys : List A) (n : ℕ) (x : A) → slice_get xs n ≡ Some x → slice_get (xs ++ ys) n ≡ Some x
  still_at [] ys n x at = absurd (none-some x at)
  still_at (y ∷ xs) ys zero x at = at
  still_at (y ∷ xs) ys (suc n) x at = still_at xs ys n x at

  pub at_end : (xs : List A) (x : A) → slice_get (xs ++ x ∷ []) (length xs) ≡ Some x
  at_end [] x = refl
  at_end (y ∷ xs) x = at_end xs x

  one_more : (xs : List A) (n : ℕ) (x : A) → slice_get xs n ≡ Some x → take (suc n) xs ≡ take n xs ++ x ∷ []
  one_more [] n x at = absurd (none-some x at)
  one_more (y ∷ xs) zero x at = ap (λ (z : A). z ∷ []) (let same : y ≡ x = cc in same)
  one_more (y ∷ xs) (suc n) x at = ap (λ (zs : List A). y ∷ zs) (one_more xs n x at)

  pub take_one_more : (xs : List A) (n : ℕ) (x : A) → slice_get xs n ≡ Some x → take (n + 1) xs ≡ take n xs ++ x ∷ []
  take_one_more xs n x at = let next : n + 1 ≡ suc n = omega arith in ap (λ m. take m xs) next ∙ one_more xs n x at

  -- MEMBERS

  pub has_before : (xs ys : List A) (x : A) → Has xs x → Has (xs ++ ys) x
  has_before [] ys x has = absurd has
  has_before (y ∷ xs) ys x (inl is) = inl is
  has_before (y ∷ xs) ys x (inr has) = inr (has_before xs ys x has)

  pub has_last : (xs : List A) (x : A) → Has (xs ++ x ∷ []) x
  has_last [] x = inl refl
  has_last (y ∷ xs) x = inr (has_last xs x)

  pub has_kept : (keep : A → Bool) (xs : List A) (x : A) → keep x ≡ true → Has xs x → Has (filter keep xs) x
  has_kept keep [] x kept has = absurd has
  has_kept keep (y ∷ xs) x kept (inl is) =
      subst (λ (b : Bool). Has (cond b (y ∷ filter keep xs) (filter keep xs)) x) (sym (ap keep (sym is) ∙ kept)) (inl is)
  has_kept keep (y ∷ xs) x kept (inr has) =
      let later : Has (filter keep xs) x = has_kept keep xs x kept has in
      cond_both (keep y) (y ∷ filter keep xs) (filter keep xs) (λ zs. Has zs x) (λ _. inr later) (λ _. later)

  -- ALL MEMBERS

  abbrev pub Each : (A → Type 0) → List A → Type 0
  Each P xs = (x : A) → Has xs x → P x

  pub each_of_one : (P : A → Type 0) (y : A) → P y → Each P (y ∷ [])
  each_of_one P y holds x (inl is) = subst P (sym is) holds
  each_of_one P y holds x (inr has) = absurd has

  pub each_in_both : (P : A → Type 0) (xs ys : List A) → Each P xs → Each P ys → Each P (xs ++ ys)
  each_in_both P [] ys first second x has = second x has
  each_in_both P (y ∷ xs) ys first second x (inl is) = first x (inl is)
  each_in_both P (y ∷ xs) ys first second x (inr has) = each_in_both P xs ys (λ z among. first z (inr among)) second x has

  has_further : (y : A) (xs ys : List A) (x : A) → (Has xs x → Has ys x) → Has (y ∷ xs) x → Has (y ∷ ys) x
  has_further y xs ys x further (inl is) = inl is
  has_further y xs ys x further (inr has) = inr (further has)

  has_unfiltered : (keep : A → Bool) (xs : List A) (x : A) → Has (filter keep xs) x → Has xs x
  has_unfiltered keep [] x has = absurd has
  has_unfiltered keep (y ∷ xs) x has = cond_both (keep y) (y ∷ filter keep xs) (filter keep xs) (λ zs. Has zs x → Has (y ∷ xs) x)
      (λ _. has_further y (filter keep xs) xs x (has_unfiltered keep xs x))
      (λ _ later. inr (has_unfiltered keep xs x later)) has

  pub each_kept : (P : A → Type 0) (keep : A → Bool) (xs : List A) → Each P xs → Each P (filter keep xs)
  each_kept P keep xs each x has = each x (has_unfiltered keep xs x has)

  has_in_front : (n : ℕ) (xs : List A) (x : A) → Has (take n xs) x → Has xs x
  has_in_front zero xs x has = absurd has
  has_in_front (suc n) [] x has = absurd has
  has_in_front (suc n) (y ∷ xs) x has = has_further y (take n xs) xs x (has_in_front n xs x) has

  pub each_in_front : (P : A → Type 0) (n : ℕ) (xs : List A) → Each P xs → Each P (take n xs)
  each_in_front P n xs each x has = each x (has_in_front n xs x has)
