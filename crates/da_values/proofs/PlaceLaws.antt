-- What a binary search finds in an ascending list.
use Rattle.std.specs.Prelude.{◌≡◌, ℕ, zero, suc, ◌+◌, ◌-◌, ◌<◌, ◌≤◌, List, [], ◌∷◌, ◌++◌, map, length, take, drop, insert, remove, slice_index_or, Result, Ok, Err, is_ok, MatchResult, refl}
use Rattle.std.specs.Cmp.{IsTotalOrder}
use Rattle.std.specs.List.{AllWithin, HoldsAt, take-map, drop-map}
use Rattle.std.specs.List.Sorted.{IsSortedBy, IsBinarySearchResult, IsSearchInRange}
use Rattle.std.specs.Ordering.{ordering_reverse, is_lt}
use Rattle.std.specs.declared.cmp.Ordering.{Ordering}
use Rattle.std.specs.declared.cmp.Ordering.TheVariants.{Less, Equal, Greater}
use Rattle.std.proofs.Common.{sym, ap, ◌∙◌, subst, inl, inr, arith}
use Rattle.std.proofs.lemmas.Bool.{cases_lt}
use Rattle.std.proofs.lemmas.Cmp.{tied_itself, tied_back}
use Rattle.std.proofs.lemmas.List.{map-append, get_or_read}
use Rattle.std.proofs.lemmas.List.Sorted.{searchable_from_sorted}
use Rattle.da_values.specs.Places.{IsAt, IsBetween}
use Rattle.da_values.specs.Sets.{Has, Below, Ascends, placed, dropped, set_has, set_insert, set_remove}
use Rattle.da_values.proofs.SetLaws.{below_each, Below-from_each, backwards, remove_absent, test_from_has, test_from_absent}

module _ {A : Type 0} (c : A → A → Ordering) (order : IsTotalOrder c) (same : (x y : A) → c x y ≡ Equal → x ≡ y) where
  forwards : (x y : A) → c x y ≡ Less → c y x ≡ Greater
  forwards x y e = order.antisymm y x ∙ ap ordering_reverse e

  at_first : (y : A) (ys : List A) (x : A) → c y x ≡ Equal → IsAt c (y ∷ ys) x 0
  at_first y ys x e =
      let tie : c x y ≡ Equal = tied_back order y x e in
      record { within = omega arith; there = inl (same x y tie); inserted = ap (λ o. placed o x y ys (set_insert c ys x)) tie; removed = ap (λ o. dropped o y ys (set_remove c ys x)) tie }

  at_later : (y : A) (ys : List A) (x : A) (i : ℕ) → c x y ≡ Greater → IsAt c ys x i → IsAt c (y ∷ ys) x (suc i)
  at_later y ys x i above at = record {
    within = omega (arith, at.within);
    there = inr at.there;
    inserted = ap (λ o. placed o x y ys (set_insert c ys x)) above ∙ ap (λ zs. y ∷ zs) at.inserted;
    removed = ap (λ o. dropped o y ys (set_remove c ys x)) above ∙ ap (λ zs. y ∷ zs) at.removed;
  }

  between_later : (y : A) (ys : List A) (x : A) (i : ℕ) → c x y ≡ Greater → IsBetween c ys x i → IsBetween c (y ∷ ys) x (suc i)
  between_later y ys x i above at = record {
    within = omega (arith, at.within);
    absent = λ h. elim h [ inl e ↦ not_tied above (ap (c x) (sym e) ∙ tied_itself order x) | inr k ↦ at.absent k ];
    inserted = ap (λ o. placed o x y ys (set_insert c ys x)) above ∙ ap (λ zs. y ∷ zs) at.inserted;
    removed = ap (λ o. dropped o y ys (set_remove c ys x)) above ∙ ap (λ zs. y ∷ zs) at.removed;
  }
    where
      not_tied : c x y ≡ Greater → c x y ≡ Equal → ⊥
      not_tied e f = cc

  between_first : (ys : List A) (x : A) → Below c x ys → IsBetween c ys x 0
  between_first [] x below = record { within = omega arith; absent = λ h. h; inserted = refl; removed = refl }
  between_first (y ∷ ys) x below =
      let absent : Has (y ∷ ys) x → ⊥ = λ h. itself (below_each c x (y ∷ ys) x below h) in
      record { within = omega arith; absent = absent; inserted = ap (λ o. placed o x y ys (set_insert c ys x)) below.0; removed = remove_absent c order same (y ∷ ys) x absent }
    where
      itself : c x x ≡ Less → ⊥
      itself e = let tie : c x x ≡ Equal = tied_itself order x in cc

  -- lists of what is kept, each by its key
  module _ {X : Type 0} (key : X → A) where
    pub at_from_tie : (es : List X) (x : A) (i : ℕ) → Ascends c (map key es) → i < length es → HoldsAt (λ e. c (key e) x ≡ Equal) es i → IsAt c (map key es) x i
    at_from_tie [] x i up inside tie = absurd (omega (arith, inside))
    at_from_tie (e ∷ es) x zero up inside tie = at_first (key e) (map key es) x (tie e)
    at_from_tie (e ∷ es) x (suc i) up inside tie =
        let at = at_from_tie es x i up.1 (omega (arith, inside)) (λ d. tie d) in
        at_later (key e) (map key es) x i (forwards (key e) x (below_each c (key e) (map key es) x up.0 at.there)) at

    below_all : (es : List X) (x : A) → AllWithin (λ e. c (key e) x ≡ Greater) es 0 (length es) → Below c x (map key es)
    below_all [] x above = tt
    below_all (e ∷ es) x above =
        (backwards c order same (key e) x (above 0 e (omega arith) (omega arith)), below_all es x (λ k d low high. above (suc k) d (omega arith) (omega (arith, high))))

    pub between_from_sides : (es : List X) (x : A) (i : ℕ) → i ≤ length es → AllWithin (λ e. c (key e) x ≡ Less) es 0 i → AllWithin (λ e. c (key e) x ≡ Greater) es i (length es) → IsBetween c (map key es) x i
    between_from_sides es x zero inside below above = between_first (map key es) x (below_all es x above)
    between_from_sides [] x (suc i) inside below above = absurd (omega (arith, inside))
    between_from_sides (e ∷ es) x (suc i) inside below above =
        between_later (key e) (map key es) x i (forwards (key e) x (below 0 e (omega arith) (omega arith)))
        (between_from_sides es x i (omega (arith, inside)) (λ k d low high. below (suc k) d (omega arith) (omega (arith, high))) (λ k d low high. above (suc k) d (omega (arith, low)) (omega (arith, high))))

    -- each is less than the next
    pub adjacent_less : (es : List X) (k : ℕ) (d : X) → Ascends c (map key es) → k + 1 < length es → c (key (slice_index_or es k d)) (key (slice_index_or es (k + 1) d)) ≡ Less
    adjacent_less [] k d up inside = absurd (omega (arith, inside))
    adjacent_less (e ∷ []) k d up inside = absurd (omega (arith, inside))
    adjacent_less (e ∷ f ∷ es) zero d up inside = up.0.0
    adjacent_less (e ∷ f ∷ es) (suc k) d up inside =
        let next : suc (k + 1) ≡ suc k + 1 = omega arith in
        subst (λ j. c (key (slice_index_or (f ∷ es) k d)) (key (slice_index_or (e ∷ f ∷ es) j d)) ≡ Less) next (adjacent_less (f ∷ es) k d up.1 (omega (arith, inside)))

    pub Ascends-from_adjacent : (es : List X) → ((k : ℕ) (d : X) → k + 1 < length es → c (key (slice_index_or es k d)) (key (slice_index_or es (k + 1) d)) ≡ Less) → Ascends c (map key es)
    Ascends-from_adjacent [] adjacent = tt
    Ascends-from_adjacent (e ∷ []) adjacent = (tt, tt)
    Ascends-from_adjacent (e ∷ f ∷ es) adjacent =
        let less : c (key e) (key f) ≡ Less = adjacent 0 e (omega arith) in
        let later = Ascends-from_adjacent (f ∷ es) (λ k d inside.
        let next : suc (k + 1) ≡ suc k + 1 = omega arith in
        subst (λ j. c (key (slice_index_or (f ∷ es) k d)) (key (slice_index_or (e ∷ f ∷ es) j d)) ≡ Less) (sym next) (adjacent (suc k) d (omega (arith, inside)))) in
        ((less, Below-from_each c (key e) (map key es) (λ z h. order.trans (key e) (key f) z less (below_each c (key f) (map key es) z later.0 h))), later)

    -- one more of them
    pub adjacent_more : (es : List X) (at : ℕ) (x y : X) → 0 < at → at < length es → x ≡ slice_index_or es (at - 1) x → y ≡ slice_index_or es at y → c (key x) (key y) ≡ Less
        → ((k : ℕ) (d : X) → k + 1 < at → c (key (slice_index_or es k d)) (key (slice_index_or es (k + 1) d)) ≡ Less)
        → (k : ℕ) (d : X) → k + 1 < at + 1 → c (key (slice_index_or es k d)) (key (slice_index_or es (k + 1) d)) ≡ Less
    adjacent_more es at x y some inside here next less before k d below =
        elim (cases_lt (k + 1) at) [
          | inl h ↦ before k d h
          | inr h ↦
              (let last : at - 1 ≡ k = omega (arith, h, below, some) in
              let end : at ≡ k + 1 = omega (arith, h, below, some) in
              ap (λ v. c (key v) (key (slice_index_or es (k + 1) d))) (ap (λ j. slice_index_or es j d) (sym last) ∙ sym (get_or_read es (at - 1) x (omega (arith, inside, some)) here d))
              ∙ ap (λ v. c (key x) (key v)) (ap (λ j. slice_index_or es j d) (sym end) ∙ sym (get_or_read es at y inside next d))
              ∙ less)
        ]

    pub not_ascending : (es : List X) (at : ℕ) (x y : X) → 0 < at → at < length es → x ≡ slice_index_or es (at - 1) x → y ≡ slice_index_or es at y → (c (key x) (key y) ≡ Less → ⊥) → Ascends c (map key es) → ⊥
    not_ascending es at x y some inside here next not_less up =
        let end : at - 1 + 1 ≡ at = omega (arith, some) in
        not_less
        (ap (λ v. c (key v) (key y)) here
        ∙ ap (λ v. c (key (slice_index_or es (at - 1) x)) (key v)) (get_or_read es at y inside next x ∙ ap (λ j. slice_index_or es j x) (sym end))
        ∙ adjacent_less es (at - 1) x up (omega (arith, inside, some)))

    rises : (es : List X) → Ascends c (map key es) → IsSortedBy (λ e f. is_lt (c (key e) (key f))) es
    rises es up k d low inside = ap is_lt (forwards (key (slice_index_or es k d)) (key (slice_index_or es (k + 1) d)) (adjacent_less es k d up inside))

    pub searched : (es : List X) (x : A) (r : Result ℕ ℕ) → Ascends c (map key es) → IsSearchInRange r (length es) → IsBinarySearchResult (λ e. c (key e) x) es r → MatchResult r (IsAt c (map key es) x) (IsBetween c (map key es) x)
    searched es x (Ok i) up inside found = at_from_tie es x i up inside found
    searched es x (Err i) up inside found =
        let sides = found (searchable_from_sorted order key es x (rises es up)) in between_from_sides es x i inside sides.0 sides.1

    -- the test, and the kept lists with an element put in and taken out
    pub test_from_place : (es : List X) (x : A) (r : Result ℕ ℕ) → MatchResult r (IsAt c (map key es) x) (IsBetween c (map key es) x) → is_ok r ≡ set_has c (map key es) x
    test_from_place es x (Ok i) at = sym (test_from_has c order same (map key es) x at.there)
    test_from_place es x (Err i) at = sym (test_from_absent c order same (map key es) x at.absent)

    pub inserted_kept : (es : List X) (v : X) (i : ℕ) → IsBetween c (map key es) (key v) i → map key (insert es i v) ≡ set_insert c (map key es) (key v)
    inserted_kept es v i at = map-append key (take i es) (v ∷ drop i es) ∙ ap (λ zs. zs ++ key v ∷ map key (drop i es)) (sym (take-map key i es)) ∙ ap (λ zs. take i (map key es) ++ key v ∷ zs) (sym (drop-map key i es)) ∙ sym at.inserted

    pub removed_kept : (es : List X) (x : A) (i : ℕ) → IsAt c (map key es) x i → map key (remove es i) ≡ set_remove c (map key es) x
    removed_kept es x i at = map-append key (take i es) (drop (suc i) es) ∙ ap (λ zs. zs ++ map key (drop (suc i) es)) (sym (take-map key i es)) ∙ ap (λ zs. take i (map key es) ++ zs) (sym (drop-map key (suc i) es)) ∙ sym at.removed
