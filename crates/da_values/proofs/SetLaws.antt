-- The laws of sets kept as strictly ascending lists, for any total order that tells its values apart.
use Rattle.std.specs.Prelude.{◌≡◌, ◌⊎◌, ◌||◌, Bool, true, false, not, cond, List, [], ◌∷◌, ◌++◌, map, length, refl, ◌+◌}
use Rattle.std.specs.List.{filter, AllByRecursion}
use Rattle.std.specs.List.Sorted.{IsStrictlySortedBy}
use Rattle.std.specs.Cmp.{IsTotalOrder}
use Rattle.std.specs.Ordering.{ordering_reverse, is_eq}
use Rattle.std.specs.declared.cmp.Ordering.{Ordering}
use Rattle.std.specs.declared.cmp.Ordering.TheVariants.{Less, Equal, Greater}
use Rattle.std.proofs.Common.{sym, ap, ◌∙◌, subst, inl, inr, arith}
use Rattle.std.proofs.lemmas.Bool.{false≢true, or_left, or_right}
use Rattle.std.proofs.lemmas.Cmp.{tied_itself}
use Rattle.da_values.specs.Sets.{Has, Distinct, IsAlike, Below, Ascends, placed, dropped, set_has, set_insert, set_remove, canon, set_image, set_union, set_intersection, set_difference}
use Rattle.da_values.proofs.Members.{of_filter, Has-filter, of_append, Has-append_left, Has-append_right, of_map, Has-map}

-- ascending in std's word, and back
module _ {A : Type 0} (c : A → A → Ordering) where
  all_from_below : (x : A) (ys : List A) → Below c x ys → AllByRecursion (λ y. c x y ≡ Less) ys
  all_from_below x [] below = tt
  all_from_below x (y ∷ ys) below = (below.0, all_from_below x ys below.1)

  below_from_all : (x : A) (ys : List A) → AllByRecursion (λ y. c x y ≡ Less) ys → Below c x ys
  below_from_all x [] all = tt
  below_from_all x (y ∷ ys) all = (all.0, below_from_all x ys all.1)

  pub sorted_from_ascends : (xs : List A) → Ascends c xs → IsStrictlySortedBy c xs
  unfolding IsStrictlySortedBy
  sorted_from_ascends [] up = tt
  sorted_from_ascends (x ∷ xs) up = (all_from_below x xs up.0, sorted_from_ascends xs up.1)

  pub ascends_from_sorted : (xs : List A) → IsStrictlySortedBy c xs → Ascends c xs
  unfolding IsStrictlySortedBy
  ascends_from_sorted [] up = tt
  ascends_from_sorted (x ∷ xs) up = (below_from_all x xs up.0, ascends_from_sorted xs up.1)

  pub below_each : (x : A) (ys : List A) (z : A) → Below c x ys → Has ys z → c x z ≡ Less
  below_each x [] z below h = absurd h
  below_each x (y ∷ ys) z below (inl e) = ap (c x) e ∙ below.0
  below_each x (y ∷ ys) z below (inr h) = below_each x ys z below.1 h

  pub Below-from_each : (x : A) (ys : List A) → ((z : A) → Has ys z → c x z ≡ Less) → Below c x ys
  Below-from_each x [] each = tt
  Below-from_each x (y ∷ ys) each = (each y (inl refl), Below-from_each x ys (λ z h. each z (inr h)))

  pub Ascends-filter : (p : A → Bool) (xs : List A) → Ascends c xs → Ascends c (filter p xs)
  Ascends-filter p [] up = tt
  Ascends-filter p (x ∷ xs) up = go (p x) (Ascends-filter p xs up.1)
    where
      go : (b : Bool) → Ascends c (filter p xs) → Ascends c (cond b (x ∷ filter p xs) (filter p xs))
      go true more = (Below-from_each x (filter p xs) (λ z h. below_each x xs z up.0 (of_filter p xs z h).0), more)
      go false more = more

module _ {A : Type 0} (c : A → A → Ordering) (order : IsTotalOrder c) (same : (x y : A) → c x y ≡ Equal → x ≡ y) where
  pub backwards : (x y : A) → c x y ≡ Greater → c y x ≡ Less
  backwards x y e = order.antisymm y x ∙ ap ordering_reverse e

  pub not_below_itself : (x : A) → c x x ≡ Less → ⊥
  not_below_itself x e = let tie : c x x ≡ Equal = tied_itself order x in cc

  not_below_the_same : (x y : A) → c x y ≡ Less → x ≡ y → ⊥
  not_below_the_same x y e i = not_below_itself x (ap (c x) i ∙ e)

  not_above_the_same : (x y : A) → c x y ≡ Greater → x ≡ y → ⊥
  not_above_the_same x y e i = not_below_itself y (subst (λ z. c y z ≡ Less) i (backwards x y e))

  -- the first of an ascending list is not among the rest
  pub first_is_not_later : (x : A) (xs : List A) → Ascends c (x ∷ xs) → Has xs x → ⊥
  first_is_not_later x xs up h = not_below_itself x (below_each c x xs x up.0 h)

  -- insert
  of_placed : (o : Ordering) (x y : A) (ys rest : List A) (z : A) → (Has rest z → (z ≡ x) ⊎ Has ys z) → Has (placed o x y ys rest) z → (z ≡ x) ⊎ Has (y ∷ ys) z
  of_placed Less x y ys rest z more h = h
  of_placed Equal x y ys rest z more h = inr h
  of_placed Greater x y ys rest z more (inl e) = inr (inl e)
  of_placed Greater x y ys rest z more (inr h) = elim (more h) [ inl e ↦ inl e | inr k ↦ inr (inr k) ]

  pub of_insert : (ys : List A) (x z : A) → Has (set_insert c ys x) z → (z ≡ x) ⊎ Has ys z
  of_insert [] x z h = h
  of_insert (y ∷ ys) x z h = of_placed (c x y) x y ys (set_insert c ys x) z (of_insert ys x z) h

  in_placed : (o : Ordering) (x y : A) → c x y ≡ o → (ys rest : List A) (z : A) → (((z ≡ x) ⊎ Has ys z) → Has rest z) → (z ≡ x) ⊎ Has (y ∷ ys) z → Has (placed o x y ys rest) z
  in_placed Less x y e ys rest z more h = h
  in_placed Equal x y e ys rest z more (inl i) = inl (i ∙ same x y e)
  in_placed Equal x y e ys rest z more (inr h) = h
  in_placed Greater x y e ys rest z more (inl i) = inr (more (inl i))
  in_placed Greater x y e ys rest z more (inr (inl i)) = inl i
  in_placed Greater x y e ys rest z more (inr (inr h)) = inr (more (inr h))

  pub Has-insert : (ys : List A) (x z : A) → (z ≡ x) ⊎ Has ys z → Has (set_insert c ys x) z
  Has-insert [] x z h = h
  Has-insert (y ∷ ys) x z h = in_placed (c x y) x y refl ys (set_insert c ys x) z (Has-insert ys x z) h

  ascends_placed : (o : Ordering) (x y : A) → c x y ≡ o → (ys : List A) → Ascends c (y ∷ ys) → Ascends c (set_insert c ys x) → Ascends c (placed o x y ys (set_insert c ys x))
  ascends_placed Less x y e ys up more = ((e, Below-from_each c x ys (λ z h. order.trans x y z e (below_each c y ys z up.0 h))), up)
  ascends_placed Equal x y e ys up more = up
  ascends_placed Greater x y e ys up more =
      (Below-from_each c y (set_insert c ys x) (λ z h. elim (of_insert ys x z h) [ inl i ↦ ap (c y) i ∙ backwards x y e | inr k ↦ below_each c y ys z up.0 k ]), more)

  pub Ascends-insert : (ys : List A) (x : A) → Ascends c ys → Ascends c (set_insert c ys x)
  Ascends-insert [] x up = (tt, tt)
  Ascends-insert (y ∷ ys) x up = ascends_placed (c x y) x y refl ys up (Ascends-insert ys x up.1)

  -- two ascending lists with the same elements are one list
  heads : (x : A) (xs : List A) (y : A) (ys : List A) → Ascends c (x ∷ xs) → Ascends c (y ∷ ys) → Has (y ∷ ys) x → Has (x ∷ xs) y → x ≡ y
  heads x xs y ys up down (inl e) h = e
  heads x xs y ys up down (inr g) (inl e) = sym e
  heads x xs y ys up down (inr g) (inr h) = absurd (not_below_itself x (order.trans x y x (below_each c x xs y up.0 h) (below_each c y ys x down.0 g)))

  tails : (x : A) (xs : List A) (y : A) (ys : List A) (z : A) → x ≡ y → Ascends c (x ∷ xs) → (Has (x ∷ xs) z → Has (y ∷ ys) z) → Has xs z → Has ys z
  tails x xs y ys z e up f h = elim (f (inr h)) [
    | inl i ↦ absurd (first_is_not_later x xs up (subst (Has xs) (i ∙ sym e) h))
    | inr k ↦ k
  ]

  pub one_list : (xs ys : List A) → Ascends c xs → Ascends c ys → IsAlike xs ys → xs ≡ ys
  one_list [] [] up down alike = refl
  one_list [] (y ∷ ys) up down alike = absurd ((alike y).1 (inl refl))
  one_list (x ∷ xs) [] up down alike = absurd ((alike x).0 (inl refl))
  one_list (x ∷ xs) (y ∷ ys) up down alike =
      let head = heads x xs y ys up down ((alike x).0 (inl refl)) ((alike y).1 (inl refl)) in
      ap (λ z. z ∷ xs) head ∙ ap (λ zs. y ∷ zs) (one_list xs ys up.1 down.1 (λ z. (tails x xs y ys z head up (alike z).0, tails y ys x xs z (sym head) down (alike z).1)))

  -- the set of a list
  pub Ascends-canon : (xs : List A) → Ascends c (canon c xs)
  Ascends-canon [] = tt
  Ascends-canon (x ∷ xs) = Ascends-insert (canon c xs) x (Ascends-canon xs)

  pub Has-canon : (xs : List A) (z : A) → Has xs z → Has (canon c xs) z
  Has-canon [] z h = absurd h
  Has-canon (x ∷ xs) z (inl e) = Has-insert (canon c xs) x z (inl e)
  Has-canon (x ∷ xs) z (inr h) = Has-insert (canon c xs) x z (inr (Has-canon xs z h))

  pub of_canon : (xs : List A) (z : A) → Has (canon c xs) z → Has xs z
  of_canon [] z h = absurd h
  of_canon (x ∷ xs) z h = elim (of_insert (canon c xs) x z h) [ inl e ↦ inl e | inr k ↦ inr (of_canon xs z k) ]

  pub canon_alike : (xs ys : List A) → IsAlike xs ys → canon c xs ≡ canon c ys
  canon_alike xs ys alike =
      one_list (canon c xs) (canon c ys) (Ascends-canon xs) (Ascends-canon ys)
      (λ z. (λ h. Has-canon ys z ((alike z).0 (of_canon xs z h)), λ h. Has-canon xs z ((alike z).1 (of_canon ys z h))))

  pub canon_itself : (xs : List A) → Ascends c xs → canon c xs ≡ xs
  canon_itself xs up = one_list (canon c xs) xs (Ascends-canon xs) up (λ z. (of_canon xs z, Has-canon xs z))

  -- an insert of what is there, and of what is not
  pub insert_there : (xs : List A) (x : A) → Ascends c xs → Has xs x → set_insert c xs x ≡ xs
  insert_there xs x up h =
      one_list (set_insert c xs x) xs (Ascends-insert xs x up) up
      (λ z. (λ k. elim (of_insert xs x z k) [ inl e ↦ subst (Has xs) (sym e) h | inr m ↦ m ], λ k. Has-insert xs x z (inr k)))

  length_placed : (o : Ordering) (x y : A) → c x y ≡ o → (ys rest : List A) → (Has (y ∷ ys) x → ⊥) → length rest ≡ length ys + 1 → length (placed o x y ys rest) ≡ length (y ∷ ys) + 1
  length_placed Less x y e ys rest new more = omega arith
  length_placed Equal x y e ys rest new more = absurd (new (inl (same x y e)))
  length_placed Greater x y e ys rest new more = omega (arith, more)

  pub length-insert_new : (xs : List A) (x : A) → (Has xs x → ⊥) → length (set_insert c xs x) ≡ length xs + 1
  length-insert_new [] x new = omega arith
  length-insert_new (y ∷ ys) x new = length_placed (c x y) x y refl ys (set_insert c ys x) new (length-insert_new ys x (λ h. new (inr h)))

  -- how many elements there are is the length: any listing of them in which none stands twice is as long
  pub Distinct-ascends : (xs : List A) → Ascends c xs → Distinct xs
  Distinct-ascends [] up = tt
  Distinct-ascends (x ∷ xs) up = (first_is_not_later x xs up, Distinct-ascends xs up.1)

  pub length-canon : (xs : List A) → Distinct xs → length (canon c xs) ≡ length xs
  length-canon [] once = refl
  length-canon (x ∷ xs) once =
      omega (arith, length-insert_new (canon c xs) x (λ h. once.0 (of_canon xs x h)), length-canon xs once.1)

  pub length_of_listing : (xs ys : List A) → Distinct xs → Ascends c ys → IsAlike xs ys → length xs ≡ length ys
  length_of_listing xs ys once up alike = sym (length-canon xs once) ∙ ap length (canon_alike xs ys alike ∙ canon_itself ys up)

  -- remove
  pub of_remove : (ys : List A) (x z : A) → Ascends c ys → Has (set_remove c ys x) z → Has ys z × (z ≡ x → ⊥)
  of_remove [] x z up h = absurd h
  of_remove (y ∷ ys) x z up h = go (c x y) refl h (of_remove ys x z up.1)
    where
      go : (o : Ordering) → c x y ≡ o → Has (dropped o y ys (set_remove c ys x)) z → (Has (set_remove c ys x) z → Has ys z × (z ≡ x → ⊥)) → Has (y ∷ ys) z × (z ≡ x → ⊥)
      go Less e (inl i) more = (inl i, λ j. not_below_the_same x y e (sym j ∙ i))
      go Less e (inr k) more = let m = more k in (inr m.0, m.1)
      go Greater e (inl i) more = (inl i, λ j. not_above_the_same x y e (sym j ∙ i))
      go Greater e (inr k) more = let m = more k in (inr m.0, m.1)
      go Equal e k more = (inr k, λ j. first_is_not_later y ys up (subst (Has ys) (j ∙ same x y e) k))

  pub Has-remove : (ys : List A) (x z : A) → Has ys z → (z ≡ x → ⊥) → Has (set_remove c ys x) z
  Has-remove [] x z h other = absurd h
  Has-remove (y ∷ ys) x z h other = go (c x y) refl h (Has-remove ys x z)
    where
      go : (o : Ordering) → c x y ≡ o → Has (y ∷ ys) z → (Has ys z → (z ≡ x → ⊥) → Has (set_remove c ys x) z) → Has (dropped o y ys (set_remove c ys x)) z
      go Equal e (inl i) more = absurd (other (i ∙ sym (same x y e)))
      go Equal e (inr k) more = k
      go Less e (inl i) more = inl i
      go Less e (inr k) more = inr (more k other)
      go Greater e (inl i) more = inl i
      go Greater e (inr k) more = inr (more k other)

  below_remove : (w x : A) (ys : List A) → Ascends c ys → Below c w ys → Below c w (set_remove c ys x)
  below_remove w x ys up below = Below-from_each c w (set_remove c ys x) (λ z h. below_each c w ys z below (of_remove ys x z up h).0)

  pub Ascends-remove : (ys : List A) (x : A) → Ascends c ys → Ascends c (set_remove c ys x)
  Ascends-remove [] x up = tt
  Ascends-remove (y ∷ ys) x up = go (c x y) (Ascends-remove ys x up.1)
    where
      go : (o : Ordering) → Ascends c (set_remove c ys x) → Ascends c (dropped o y ys (set_remove c ys x))
      go Equal more = up.1
      go Less more = (below_remove y x ys up.1 up.0, more)
      go Greater more = (below_remove y x ys up.1 up.0, more)

  -- a remove of what is not there
  pub remove_absent : (xs : List A) (x : A) → (Has xs x → ⊥) → set_remove c xs x ≡ xs
  remove_absent [] x new = refl
  remove_absent (y ∷ ys) x new = go (c x y) refl (remove_absent ys x (λ h. new (inr h)))
    where
      go : (o : Ordering) → c x y ≡ o → set_remove c ys x ≡ ys → dropped o y ys (set_remove c ys x) ≡ y ∷ ys
      go Equal e more = absurd (new (inl (same x y e)))
      go Less e more = ap (λ zs. y ∷ zs) more
      go Greater e more = ap (λ zs. y ∷ zs) more

  pub length-remove_there : (xs : List A) (x : A) → Has xs x → length (set_remove c xs x) + 1 ≡ length xs
  length-remove_there [] x h = absurd h
  length-remove_there (y ∷ ys) x h = go (c x y) refl h (length-remove_there ys x)
    where
      go : (o : Ordering) → c x y ≡ o → Has (y ∷ ys) x → (Has ys x → length (set_remove c ys x) + 1 ≡ length ys) → length (dropped o y ys (set_remove c ys x)) + 1 ≡ length (y ∷ ys)
      go Equal e k more = omega arith
      go Less e (inl i) more = absurd (not_below_the_same x y e i)
      go Less e (inr k) more = omega (arith, more k)
      go Greater e (inl i) more = absurd (not_above_the_same x y e i)
      go Greater e (inr k) more = omega (arith, more k)

  -- the test
  pub Has-from_test : (xs : List A) (x : A) → set_has c xs x ≡ true → Has xs x
  Has-from_test [] x t = absurd (false≢true t)
  Has-from_test (y ∷ ys) x t = go (c x y) refl t (Has-from_test ys x)
    where
      go : (o : Ordering) → c x y ≡ o → (is_eq o || set_has c ys x) ≡ true → (set_has c ys x ≡ true → Has ys x) → Has (y ∷ ys) x
      go Equal e k more = inl (same x y e)
      go Less e k more = inr (more k)
      go Greater e k more = inr (more k)

  pub test_from_has : (xs : List A) (x : A) → Has xs x → set_has c xs x ≡ true
  test_from_has [] x h = absurd h
  test_from_has (y ∷ ys) x (inl e) = or_left (is_eq (c x y)) (set_has c ys x) (ap is_eq (ap (c x) (sym e) ∙ tied_itself order x))
  test_from_has (y ∷ ys) x (inr h) = or_right (is_eq (c x y)) (set_has c ys x) (test_from_has ys x h)

  pub absent_from_test : (xs : List A) (x : A) → set_has c xs x ≡ false → Has xs x → ⊥
  absent_from_test xs x t h = false≢true (sym t ∙ test_from_has xs x h)

  pub test_from_absent : (xs : List A) (x : A) → (Has xs x → ⊥) → set_has c xs x ≡ false
  test_from_absent xs x new = go (set_has c xs x) refl
    where
      go : (b : Bool) → set_has c xs x ≡ b → b ≡ false
      go true t = absurd (new (Has-from_test xs x t))
      go false t = refl

  -- each element is in the list or not
  pub has_or_not : (xs : List A) (x : A) → Has xs x ⊎ (Has xs x → ⊥)
  has_or_not xs x = go (set_has c xs x) refl
    where
      go : (b : Bool) → set_has c xs x ≡ b → Has xs x ⊎ (Has xs x → ⊥)
      go true t = inl (Has-from_test xs x t)
      go false t = inr (absent_from_test xs x t)

  -- the least element is the first
  pub least_is_first : (x : A) (xs : List A) (z : A) → Ascends c (x ∷ xs) → Has (x ∷ xs) z → (z ≡ x) ⊎ (c x z ≡ Less)
  least_is_first x xs z up (inl e) = inl e
  least_is_first x xs z up (inr h) = inr (below_each c x xs z up.0 h)

  -- union, intersection, difference
  pub of_union : (xs ys : List A) (z : A) → Has (set_union c xs ys) z → Has xs z ⊎ Has ys z
  of_union xs ys z h = of_append xs ys z (of_canon (xs ++ ys) z h)

  pub Has-union_left : (xs ys : List A) (z : A) → Has xs z → Has (set_union c xs ys) z
  Has-union_left xs ys z h = Has-canon (xs ++ ys) z (Has-append_left xs ys z h)

  pub Has-union_right : (xs ys : List A) (z : A) → Has ys z → Has (set_union c xs ys) z
  Has-union_right xs ys z h = Has-canon (xs ++ ys) z (Has-append_right xs ys z h)

  pub Ascends-union : (xs ys : List A) → Ascends c (set_union c xs ys)
  Ascends-union xs ys = Ascends-canon (xs ++ ys)

  pub of_intersection : (xs ys : List A) (z : A) → Has (set_intersection c xs ys) z → Has xs z × Has ys z
  of_intersection xs ys z h = let m = of_filter (set_has c ys) xs z h in (m.0, Has-from_test ys z m.1)

  pub Has-intersection : (xs ys : List A) (z : A) → Has xs z → Has ys z → Has (set_intersection c xs ys) z
  Has-intersection xs ys z h k = Has-filter (set_has c ys) xs z h (test_from_has ys z k)

  pub Ascends-intersection : (xs ys : List A) → Ascends c xs → Ascends c (set_intersection c xs ys)
  Ascends-intersection xs ys up = Ascends-filter c (set_has c ys) xs up

  not_true : (b : Bool) → not b ≡ true → b ≡ false
  not_true true t = absurd (false≢true t)
  not_true false t = refl

  pub of_difference : (xs ys : List A) (z : A) → Has (set_difference c xs ys) z → Has xs z × (Has ys z → ⊥)
  of_difference xs ys z h =
      let m = of_filter (λ x. not (set_has c ys x)) xs z h in (m.0, absent_from_test ys z (not_true (set_has c ys z) m.1))

  pub Has-difference : (xs ys : List A) (z : A) → Has xs z → (Has ys z → ⊥) → Has (set_difference c xs ys) z
  Has-difference xs ys z h other = Has-filter (λ x. not (set_has c ys x)) xs z h (ap not (test_from_absent ys z other))

  pub Ascends-difference : (xs ys : List A) → Ascends c xs → Ascends c (set_difference c xs ys)
  Ascends-difference xs ys up = Ascends-filter c (λ x. not (set_has c ys x)) xs up

  -- the image of a list
  module _ {B : Type 0} (f : B → A) where
    pub of_image : (xs : List B) (z : A) → Has (set_image c f xs) z → (x : B) × Has xs x × (z ≡ f x)
    of_image xs z h = of_map f xs z (of_canon (map f xs) z h)

    pub Has-image : (xs : List B) (x : B) → Has xs x → Has (set_image c f xs) (f x)
    Has-image xs x h = Has-canon (map f xs) (f x) (Has-map f xs x h)

    pub Ascends-image : (xs : List B) → Ascends c (set_image c f xs)
    Ascends-image xs = Ascends-canon (map f xs)
