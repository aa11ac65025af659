-- What is in a list that was made of others.
use Rattle.std.specs.Prelude.{◌≡◌, ◌⊎◌, ◌||◌, ◌&&◌, ℕ, zero, suc, ◌<◌, Bool, true, false, cond, Option, Some, None, List, [], ◌∷◌, ◌++◌, map, length, slice_index_or, refl}
use Rattle.std.specs.List.{filter, flat_map, filter_map, cons_option, list_any, list_all}
use Rattle.std.proofs.Common.{sym, ap, ◌∙◌, subst, inl, inr, arith}
use Rattle.std.proofs.lemmas.Bool.{false≢true, or_left, or_right, and_parts}
use Rattle.da_values.specs.Sets.{Has, IsAlike}

module _ {A : Type 0} where
  pub Has-append_left : (xs ys : List A) (z : A) → Has xs z → Has (xs ++ ys) z
  Has-append_left [] ys z h = absurd h
  Has-append_left (x ∷ xs) ys z (inl e) = inl e
  Has-append_left (x ∷ xs) ys z (inr h) = inr (Has-append_left xs ys z h)

  pub Has-append_right : (xs ys : List A) (z : A) → Has ys z → Has (xs ++ ys) z
  Has-append_right [] ys z h = h
  Has-append_right (x ∷ xs) ys z h = inr (Has-append_right xs ys z h)

  pub of_append : (xs ys : List A) (z : A) → Has (xs ++ ys) z → Has xs z ⊎ Has ys z
  of_append [] ys z h = inr h
  of_append (x ∷ xs) ys z (inl e) = inl (inl e)
  of_append (x ∷ xs) ys z (inr h) = elim (of_append xs ys z h) [ inl a ↦ inl (inr a) | inr b ↦ inr b ]

  -- the element at a place, and a place of an element
  pub Has-at : (xs : List A) (k : ℕ) (d : A) → k < length xs → Has xs (slice_index_or xs k d)
  Has-at [] k d inside = absurd (omega (arith, inside))
  Has-at (x ∷ xs) zero d inside = inl refl
  Has-at (x ∷ xs) (suc k) d inside = inr (Has-at xs k d (omega (arith, inside)))

  pub place_of : (xs : List A) (z d : A) → Has xs z → (k : ℕ) × (k < length xs) × (slice_index_or xs k d ≡ z)
  place_of [] z d h = absurd h
  place_of (x ∷ xs) z d (inl e) = (0, omega arith, sym e)
  place_of (x ∷ xs) z d (inr h) = let found = place_of xs z d h in (suc found.0, omega (arith, found.1), found.2)

  pub Has-filter : (p : A → Bool) (xs : List A) (z : A) → Has xs z → p z ≡ true → Has (filter p xs) z
  Has-filter p [] z h t = absurd h
  Has-filter p (x ∷ xs) z (inl e) t = subst (λ b. Has (cond b (x ∷ filter p xs) (filter p xs)) z) (sym t ∙ ap p e) (inl e)
  Has-filter p (x ∷ xs) z (inr h) t = go (p x) (Has-filter p xs z h t)
    where
      go : (b : Bool) → Has (filter p xs) z → Has (cond b (x ∷ filter p xs) (filter p xs)) z
      go true more = inr more
      go false more = more

  pub of_filter : (p : A → Bool) (xs : List A) (z : A) → Has (filter p xs) z → Has xs z × (p z ≡ true)
  of_filter p [] z h = absurd h
  of_filter p (x ∷ xs) z h = go (p x) refl h (of_filter p xs z)
    where
      go : (b : Bool) → p x ≡ b → Has (cond b (x ∷ filter p xs) (filter p xs)) z → (Has (filter p xs) z → Has xs z × (p z ≡ true)) → Has (x ∷ xs) z × (p z ≡ true)
      go true e (inl i) more = (inl i, ap p i ∙ e)
      go true e (inr k) more = let m = more k in (inr m.0, m.1)
      go false e k more = let m = more k in (inr m.0, m.1)

  -- a test of some element, and of each
  pub Has-from_any : (p : A → Bool) (xs : List A) → list_any p xs ≡ true → (z : A) × Has xs z × (p z ≡ true)
  Has-from_any p [] h = absurd (false≢true h)
  Has-from_any p (x ∷ xs) h = go (p x) refl h (Has-from_any p xs)
    where
      go : (b : Bool) → p x ≡ b → (b || list_any p xs) ≡ true → (list_any p xs ≡ true → (z : A) × Has xs z × (p z ≡ true)) → (z : A) × Has (x ∷ xs) z × (p z ≡ true)
      go true e k more = (x, inl refl, e)
      go false e k more = let m = more k in (m.0, inr m.1, m.2)

  pub any_from_has : (p : A → Bool) (xs : List A) (z : A) → Has xs z → p z ≡ true → list_any p xs ≡ true
  any_from_has p [] z h t = absurd h
  any_from_has p (y ∷ ys) z (inl e) t = or_left (p y) (list_any p ys) (ap p (sym e) ∙ t)
  any_from_has p (y ∷ ys) z (inr h) t = or_right (p y) (list_any p ys) (any_from_has p ys z h t)

  pub each_from_all : (p : A → Bool) (xs : List A) (z : A) → list_all p xs ≡ true → Has xs z → p z ≡ true
  each_from_all p [] z t h = absurd h
  each_from_all p (y ∷ ys) z t (inl e) = ap p e ∙ (and_parts (p y) (list_all p ys) t).0
  each_from_all p (y ∷ ys) z t (inr h) = each_from_all p ys z (and_parts (p y) (list_all p ys) t).1 h

  pub all_from_each : (p : A → Bool) (xs : List A) → ((z : A) → Has xs z → p z ≡ true) → list_all p xs ≡ true
  all_from_each p [] each = refl
  all_from_each p (x ∷ xs) each = go (p x) (each x (inl refl)) (all_from_each p xs (λ z h. each z (inr h)))
    where
      go : (b : Bool) → b ≡ true → list_all p xs ≡ true → (b && list_all p xs) ≡ true
      go true e more = more
      go false e more = absurd (false≢true e)

  pub IsAlike-refl : (xs : List A) → IsAlike xs xs
  IsAlike-refl xs z = (λ h. h, λ h. h)

  pub IsAlike-sym : (xs ys : List A) → IsAlike xs ys → IsAlike ys xs
  IsAlike-sym xs ys alike z = ((alike z).1, (alike z).0)

  pub IsAlike-trans : (xs ys zs : List A) → IsAlike xs ys → IsAlike ys zs → IsAlike xs zs
  IsAlike-trans xs ys zs f g z = (λ h. (g z).0 ((f z).0 h), λ h. (f z).1 ((g z).1 h))

  after_option : (o : Option A) (zs : List A) (z : A) → Has zs z → Has (cons_option o zs) z
  after_option None zs z h = h
  after_option (Some y) zs z h = inr h

  at_option : (o : Option A) (zs : List A) (z : A) → o ≡ Some z → Has (cons_option o zs) z
  at_option None zs z e = absurd (cc)
  at_option (Some y) zs z e = inl (cc)

  of_option : (o : Option A) (zs : List A) (z : A) → Has (cons_option o zs) z → (o ≡ Some z) ⊎ Has zs z
  of_option None zs z h = inr h
  of_option (Some y) zs z (inl e) = inl (ap Some (sym e))
  of_option (Some y) zs z (inr h) = inr h

module _ {A B : Type 0} where
  pub Has-map : (f : A → B) (xs : List A) (x : A) → Has xs x → Has (map f xs) (f x)
  Has-map f [] x h = absurd h
  Has-map f (y ∷ ys) x (inl e) = inl (ap f e)
  Has-map f (y ∷ ys) x (inr h) = inr (Has-map f ys x h)

  pub of_map : (f : A → B) (xs : List A) (z : B) → Has (map f xs) z → (x : A) × Has xs x × (z ≡ f x)
  of_map f [] z h = absurd h
  of_map f (y ∷ ys) z (inl e) = let itself : y ≡ y = refl in (y, inl itself, e)
  of_map f (y ∷ ys) z (inr h) = let m = of_map f ys z h in (m.0, inr m.1, m.2)

  pub Has-flat_map : (f : A → List B) (xs : List A) (x : A) (z : B) → Has xs x → Has (f x) z → Has (flat_map f xs) z
  Has-flat_map f [] x z h k = absurd h
  Has-flat_map f (y ∷ ys) x z (inl e) k = Has-append_left (f y) (flat_map f ys) z (subst (λ u. Has (f u) z) e k)
  Has-flat_map f (y ∷ ys) x z (inr h) k = Has-append_right (f y) (flat_map f ys) z (Has-flat_map f ys x z h k)

  pub of_flat_map : (f : A → List B) (xs : List A) (z : B) → Has (flat_map f xs) z → (x : A) × Has xs x × Has (f x) z
  of_flat_map f [] z h = absurd h
  of_flat_map f (y ∷ ys) z h = elim (of_append (f y) (flat_map f ys) z h) [
    | inl k ↦ (y, inl refl, k)
    | inr k ↦ (let m = of_flat_map f ys z k in (m.0, inr m.1, m.2))
  ]

  pub Has-filter_map : (f : A → Option B) (xs : List A) (x : A) (z : B) → Has xs x → f x ≡ Some z → Has (filter_map f xs) z
  Has-filter_map f [] x z h e = absurd h
  Has-filter_map f (y ∷ ys) x z (inl i) e = at_option (f y) (filter_map f ys) z (ap f (sym i) ∙ e)
  Has-filter_map f (y ∷ ys) x z (inr h) e = after_option (f y) (filter_map f ys) z (Has-filter_map f ys x z h e)

  pub of_filter_map : (f : A → Option B) (xs : List A) (z : B) → Has (filter_map f xs) z → (x : A) × Has xs x × (f x ≡ Some z)
  of_filter_map f [] z h = absurd h
  of_filter_map f (y ∷ ys) z h = elim (of_option (f y) (filter_map f ys) z h) [
    | inl k ↦ (y, inl refl, k)
    | inr k ↦ (let m = of_filter_map f ys z k in (m.0, inr m.1, m.2))
  ]
