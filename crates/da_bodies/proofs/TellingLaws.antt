-- Which refusal is reported depends on what is found alone, and not on the order.
use Rattle.std.specs.Prelude.{◌≡◌, refl, ℕ, ◌+◌, ◌*◌, ◌<◌, ◌≤◌, nat_lt, ◌==◌, ◌||◌, ◌&&◌, Bool, true, false, if◌then◌else◌, List, [], ◌∷◌, ◌++◌, flat_map, Option, Some, None, Contains, option_map}
use Rattle.std.proofs.Common.{◌∙◌, ⊎_elim, subst, sym, ap, arith, ltb-true, ltb-false, eqb-true}
use Rattle.std.proofs.lemmas.Bool.{eqb-false}
use Rattle.da_lang.specs.NameRules.{rank as name_rank}
use Rattle.da_lang.specs.Scopes.{Refused, sooner, sooner_of, told}
use Rattle.da_bodies.specs.declared.earliest.Fault.{Fault}
use Rattle.da_bodies.specs.Telling.{Refusal, refusal_of, telling, telling_by}
use Rattle.da_calls.proofs.CallBounds.{in_first, in_later, in_cases, in_none}

module _ {K : Type 0} (rank : K → ℕ) where
  pub telling_by-nil : (found : Option (Refused K)) → telling_by rank found [] ≡ found
  unfolding telling_by
  telling_by-nil found = refl

  pub telling_by-append : (found : Option (Refused K)) (xs ys : List (Refused K)) → telling_by rank found (xs ++ ys) ≡ telling_by rank (telling_by rank found xs) ys
  unfolding telling_by
  telling_by-append found [] ys = refl
  telling_by-append found (x ∷ xs) ys = telling_by-append (Some (sooner_of rank x found)) xs ys

-- the same of refusals by names
pub telling-nil : (found : Option Refusal) → telling found [] ≡ found
telling-nil = telling_by-nil name_rank

pub telling-append : (found : Option Refusal) (xs ys : List Refusal) → telling found (xs ++ ys) ≡ telling (telling found xs) ys
telling-append = telling_by-append name_rank

-- nothing is reported only where nothing is found
told_none : {K : Type 0} (rank : K → ℕ) (xs : List (Refused K)) → told rank xs ≡ None → xs ≡ []
told_none rank [] none = refl
told_none rank (x ∷ xs) none = absurd (cc)

pub untold : {K : Type 0} (rank : K → ℕ) (xs : List (Refused K)) (fault : Option (Fault K)) → option_map refusal_of fault ≡ told rank xs → fault ≡ None → xs ≡ []
untold rank xs fault tells none = told_none rank xs (sym tells ∙ ap (option_map refusal_of) none)

-- ranks that are few, and another one for each kind
pub record IsOrder {K : Type 0} (rank : K → ℕ) : Type 0 where
  pub below : (k : K) → rank k < 16
  pub apart : (k l : K) → rank k ≡ rank l → k ≡ l

module _ {K : Type 0} {rank : K → ℕ} (order : IsOrder rank) where
  -- the place of a refusal in the order of all
  abbrev place : Refused K → ℕ
  place x = 16 * x.line + rank x.kind

  same_place : (x y : Refused K) → place x ≡ place y → x ≡ y
  same_place x y e =
      let low = order.below x.kind in
      let low' = order.below y.kind in
      let lines : x.line ≡ y.line = omega arith in
      let ranks : rank x.kind ≡ rank y.kind = omega arith in
      let first : x ≡ record { kind = y.kind; line = x.line } = ap (λ (k : K). let r : Refused K = record { kind = k; line = x.line } in r) (order.apart x.kind y.kind ranks) in
      first ∙ ap (λ (n : ℕ). let r : Refused K = record { kind = y.kind; line = n } in r) lines

  -- sooner means a lesser place
  is_sooner : (x y : Refused K) (less same lower : Bool) → nat_lt x.line y.line ≡ less → (x.line == y.line) ≡ same → nat_lt (rank x.kind) (rank y.kind) ≡ lower → (b : Bool) → nat_lt (place x) (place y) ≡ b → (less || (same && lower)) ≡ b
  is_sooner x y true same lower l s r true p = refl
  is_sooner x y true same lower l s r false p = absurd (omega (arith, order.below x.kind, order.below y.kind, ltb-true x.line y.line l, ltb-false (place x) (place y) p))
  is_sooner x y false true true l s r true p = refl
  is_sooner x y false true true l s r false p = absurd (omega (arith, eqb-true x.line y.line s, ltb-true (rank x.kind) (rank y.kind) r, ltb-false (place x) (place y) p))
  is_sooner x y false true false l s r false p = refl
  is_sooner x y false true false l s r true p = absurd (omega (arith, eqb-true x.line y.line s, ltb-false (rank x.kind) (rank y.kind) r, ltb-true (place x) (place y) p))
  is_sooner x y false false lower l s r false p = refl
  is_sooner x y false false lower l s r true p = absurd (omega (arith, order.below x.kind, order.below y.kind, eqb-false x.line y.line s, ltb-false x.line y.line l, ltb-true (place x) (place y) p))

  sooner-place : (x y : Refused K) → sooner rank x y ≡ nat_lt (place x) (place y)
  sooner-place x y = is_sooner x y (nat_lt x.line y.line) (x.line == y.line) (nat_lt (rank x.kind) (rank y.kind)) refl refl refl (nat_lt (place x) (place y)) refl

  -- the lesser of two
  lesser : Refused K → Refused K → Refused K
  lesser x y = if nat_lt (place y) (place x) then y else x

  sooner_of-lesser : (x y : Refused K) → sooner_of rank x (Some y) ≡ lesser x y
  unfolding lesser
  sooner_of-lesser x y = ap (λ b. if b then y else x) (sooner-place y x)

  left_by : (x y : Refused K) (b : Bool) → nat_lt (place y) (place x) ≡ b → place x ≤ place y → (if b then y else x) ≡ x
  left_by x y true e h = absurd (omega (arith, ltb-true (place y) (place x) e))
  left_by x y false e h = refl

  lesser_left : (x y : Refused K) → place x ≤ place y → lesser x y ≡ x
  unfolding lesser
  lesser_left x y h = left_by x y (nat_lt (place y) (place x)) refl h

  right_by : (x y : Refused K) (b : Bool) → nat_lt (place y) (place x) ≡ b → place y ≤ place x → (if b then y else x) ≡ y
  right_by x y true e h = refl
  right_by x y false e h = same_place x y (omega (arith, ltb-false (place y) (place x) e))

  lesser_right : (x y : Refused K) → place y ≤ place x → lesser x y ≡ y
  unfolding lesser
  lesser_right x y h = right_by x y (nat_lt (place y) (place x)) refl h

  above_by : (x y z : Refused K) (b : Bool) → place x ≤ place y → place x ≤ place z → place x ≤ place (if b then z else y)
  above_by x y z true h k = k
  above_by x y z false h k = h

  above_lesser : (x y z : Refused K) → place x ≤ place y → place x ≤ place z → place x ≤ place (lesser y z)
  unfolding lesser
  above_lesser x y z h k = above_by x y z (nat_lt (place z) (place y)) h k

  -- the order in which two are found does not matter
  abbrev Swaps : Refused K → Refused K → Refused K → Type 0
  Swaps x y z = lesser x (lesser y z) ≡ lesser y (lesser x z)

  first_least : (x y z : Refused K) → place x ≤ place y → place x ≤ place z → Swaps x y z
  first_least x y z h k = lesser_left x (lesser y z) (above_lesser x y z h k) ∙ sym (ap (lesser y) (lesser_left x z k) ∙ lesser_right y x h)

  second_least : (x y z : Refused K) → place y ≤ place x → place y ≤ place z → Swaps x y z
  second_least x y z h k = sym (first_least y x z h k)

  third_least : (x y z : Refused K) → place z ≤ place x → place z ≤ place y → Swaps x y z
  third_least x y z h k = ap (lesser x) (lesser_right y z k) ∙ lesser_right x z h ∙ sym (ap (lesser y) (lesser_right x z h) ∙ lesser_right y z k)

  swap_by : (x y z : Refused K) (a b c : Bool) → nat_lt (place x) (place y) ≡ a → nat_lt (place x) (place z) ≡ b → nat_lt (place y) (place z) ≡ c → Swaps x y z
  swap_by x y z true true c p q r = first_least x y z (omega (arith, ltb-true (place x) (place y) p)) (omega (arith, ltb-true (place x) (place z) q))
  swap_by x y z true false c p q r = third_least x y z (ltb-false (place x) (place z) q) (omega (arith, ltb-true (place x) (place y) p, ltb-false (place x) (place z) q))
  swap_by x y z false b true p q r = second_least x y z (ltb-false (place x) (place y) p) (omega (arith, ltb-true (place y) (place z) r))
  swap_by x y z false b false p q r = third_least x y z (omega (arith, ltb-false (place x) (place y) p, ltb-false (place y) (place z) r)) (ltb-false (place y) (place z) r)

  lesser-swap : (x y z : Refused K) → Swaps x y z
  lesser-swap x y z = swap_by x y z (nat_lt (place x) (place y)) (nat_lt (place x) (place z)) (nat_lt (place y) (place z)) refl refl refl

  -- one more refusal
  abbrev told_with : Option (Refused K) → Refused K → Option (Refused K)
  told_with found x = Some (sooner_of rank x found)

  both_by : (x y : Refused K) (b : Bool) → nat_lt (place x) (place y) ≡ b → lesser x y ≡ lesser y x
  both_by x y true p = lesser_left x y (omega (arith, ltb-true (place x) (place y) p)) ∙ sym (lesser_right y x (omega (arith, ltb-true (place x) (place y) p)))
  both_by x y false p = lesser_right x y (ltb-false (place x) (place y) p) ∙ sym (lesser_left y x (ltb-false (place x) (place y) p))

  lesser_comm : (x y : Refused K) → lesser x y ≡ lesser y x
  lesser_comm x y = both_by x y (nat_lt (place x) (place y)) refl

  told_with-swap : (found : Option (Refused K)) (x y : Refused K) → told_with (told_with found x) y ≡ told_with (told_with found y) x
  told_with-swap None x y = ap Some (sooner_of-lesser y x ∙ lesser_comm y x ∙ sym (sooner_of-lesser x y))
  told_with-swap (Some z) x y =
      let inner : (a b : Refused K) → sooner_of rank a (Some (sooner_of rank b (Some z))) ≡ lesser a (lesser b z) =
      λ a b. sooner_of-lesser a (sooner_of rank b (Some z)) ∙ ap (lesser a) (sooner_of-lesser b z) in
      ap Some (inner y x ∙ lesser-swap y x z ∙ sym (inner x y))

  telling-first : (found : Option (Refused K)) (x : Refused K) (xs : List (Refused K)) → telling_by rank (told_with found x) xs ≡ told_with (telling_by rank found xs) x
  unfolding telling_by
  telling-first found x [] = refl
  telling-first found x (y ∷ ys) = ap (λ f. telling_by rank f ys) (told_with-swap found x y) ∙ telling-first (told_with found y) x ys

  pub telling-swap : (found : Option (Refused K)) (xs ys : List (Refused K)) → telling_by rank (telling_by rank found xs) ys ≡ telling_by rank (telling_by rank found ys) xs
  unfolding telling_by
  telling-swap found [] ys = refl
  telling-swap found (x ∷ xs) ys = telling-swap (told_with found x) xs ys ∙ ap (λ f. telling_by rank f xs) (telling-first found x ys)

  -- what was found before changes nothing
  below_by : (x z : Refused K) (b : Bool) → nat_lt (place z) (place x) ≡ b → place (if b then z else x) ≤ place x
  below_by x z true e = omega (arith, ltb-true (place z) (place x) e)
  below_by x z false e = omega arith

  lesser_below : (x z : Refused K) → place (lesser x z) ≤ place x
  unfolding lesser
  lesser_below x z = below_by x z (nat_lt (place z) (place x)) refl

  told_with-again : (found : Option (Refused K)) (x : Refused K) → told_with (told_with found x) x ≡ told_with found x
  told_with-again None x = ap Some (sooner_of-lesser x x ∙ lesser_left x x (omega arith))
  told_with-again (Some z) x =
      ap Some (sooner_of-lesser x (sooner_of rank x (Some z)) ∙ ap (lesser x) (sooner_of-lesser x z) ∙ lesser_right x (lesser x z) (lesser_below x z) ∙ sym (sooner_of-lesser x z))

  pub telling-again : (found : Option (Refused K)) (xs : List (Refused K)) → telling_by rank (telling_by rank found xs) xs ≡ telling_by rank found xs
  unfolding telling_by
  telling-again found [] = refl
  telling-again found (x ∷ xs) =
      ap (λ f. telling_by rank f xs) (sym (telling-first (told_with found x) x xs) ∙ ap (λ f. telling_by rank f xs) (told_with-again found x)) ∙ telling-again (told_with found x) xs

  -- the same things in another order, some of them more than once
  known_here : {A : Type 0} (p : A → List (Refused K)) (found : Option (Refused K)) (x : A) (xs : List A) → telling_by rank (telling_by rank found (flat_map p (x ∷ xs))) (p x) ≡ telling_by rank found (flat_map p (x ∷ xs))
  known_here p found x xs =
      ap (λ f. telling_by rank f (p x)) (telling_by-append rank found (p x) (flat_map p xs)) ∙ telling-swap (telling_by rank found (p x)) (flat_map p xs) (p x)
      ∙ ap (λ f. telling_by rank f (flat_map p xs)) (telling-again found (p x)) ∙ sym (telling_by-append rank found (p x) (flat_map p xs))

  known_later : {A : Type 0} (p : A → List (Refused K)) (found : Option (Refused K)) (x : A) (xs : List A) (y : A) → telling_by rank (telling_by rank (telling_by rank found (p x)) (flat_map p xs)) (p y) ≡ telling_by rank (telling_by rank found (p x)) (flat_map p xs) → telling_by rank (telling_by rank found (flat_map p (x ∷ xs))) (p y) ≡ telling_by rank found (flat_map p (x ∷ xs))
  known_later p found x xs y known = ap (λ f. telling_by rank f (p y)) (telling_by-append rank found (p x) (flat_map p xs)) ∙ known ∙ sym (telling_by-append rank found (p x) (flat_map p xs))

  telling-known : {A : Type 0} (p : A → List (Refused K)) (found : Option (Refused K)) (xs : List A) (y : A) → Contains xs y → telling_by rank (telling_by rank found (flat_map p xs)) (p y) ≡ telling_by rank found (flat_map p xs)
  telling-known p found [] y has = absurd (in_none y has)
  telling-known p found (x ∷ xs) y has =
      ⊎_elim
      (λ same. subst (λ z. telling_by rank (telling_by rank found (flat_map p (x ∷ xs))) (p z) ≡ telling_by rank found (flat_map p (x ∷ xs))) same (known_here p found x xs))
      (λ later. known_later p found x xs y (telling-known p (telling_by rank found (p x)) xs y later))
      (in_cases x xs y has)

  all_known : {A : Type 0} (p : A → List (Refused K)) (found : Option (Refused K)) (xs ys : List A) → ((y : A) → Contains ys y → Contains xs y) → telling_by rank (telling_by rank found (flat_map p xs)) (flat_map p ys) ≡ telling_by rank found (flat_map p xs)
  all_known p found xs [] among = telling_by-nil rank (telling_by rank found (flat_map p xs))
  all_known p found xs (y ∷ ys) among =
      telling_by-append rank (telling_by rank found (flat_map p xs)) (p y) (flat_map p ys)
      ∙ ap (λ f. telling_by rank f (flat_map p ys)) (telling-known p found xs y (among y (in_first y ys)))
      ∙ all_known p found xs ys (λ z has. among z (in_later y ys z has))

  pub telling-same : {A : Type 0} (p : A → List (Refused K)) (found : Option (Refused K)) (xs ys : List A) → ((x : A) → Contains xs x → Contains ys x) → ((y : A) → Contains ys y → Contains xs y) → telling_by rank found (flat_map p xs) ≡ telling_by rank found (flat_map p ys)
  telling-same p found xs ys there back = sym (all_known p found xs ys back) ∙ telling-swap found (flat_map p xs) (flat_map p ys) ∙ all_known p found ys xs there

  pub told-telling : (xs : List (Refused K)) → told rank xs ≡ telling_by rank None xs
  unfolding telling_by
  told-telling [] = refl
  told-telling (x ∷ xs) = ap (λ f. told_with f x) (told-telling xs) ∙ sym (telling-first None x xs)

  -- two lists that are found together, for each of some things
  pub telling-both : {A : Type 0} (p q : A → List (Refused K)) (found : Option (Refused K)) (xs : List A) → telling_by rank found (flat_map (λ x. p x ++ q x) xs) ≡ telling_by rank (telling_by rank found (flat_map p xs)) (flat_map q xs)
  telling-both p q found [] = sym (telling_by-nil rank (telling_by rank found []))
  telling-both p q found (x ∷ xs) =
      telling_by-append rank found (p x ++ q x) (flat_map (λ y. p y ++ q y) xs)
      ∙ telling-both p q (telling_by rank found (p x ++ q x)) xs
      ∙ ap (λ f. telling_by rank (telling_by rank f (flat_map p xs)) (flat_map q xs)) (telling_by-append rank found (p x) (q x))
      ∙ ap (λ f. telling_by rank f (flat_map q xs)) (telling-swap (telling_by rank found (p x)) (q x) (flat_map p xs))
      ∙ ap (λ f. telling_by rank (telling_by rank f (q x)) (flat_map q xs)) (sym (telling_by-append rank found (p x) (flat_map p xs)))
      ∙ sym (telling_by-append rank (telling_by rank found (p x ++ flat_map p xs)) (q x) (flat_map q xs))
