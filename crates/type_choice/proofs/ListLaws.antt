-- What is so of each element of a list.
use Rattle.std.specs.Prelude.{◌≡◌, refl, ℕ, zero, suc, ◌<◌, ◌⊎◌, Bool, true, false, List, [], ◌∷◌, ◌++◌, map, length, replicate, Option, Some, None, slice_get}
use Rattle.std.specs.List.{list_all, AllByRecursion}
use Rattle.std.proofs.Common.{inl, inr, ◌∙◌, ap, sym, subst, arith, drop}
use Rattle.std.proofs.lemmas.Bool.{false≢true, and_parts, and_cases}

pub some_same : {A : Type 0} (d : A) {x y : A} → Some x ≡ Some y → x ≡ y
some_same {A} d {x} {y} e = ap (λ (o : Option A). value_or o) e
  where
    value_or : Option A → A
    value_or None = d
    value_or (Some z) = z

pub all_at : {A : Type 0} (P : A → Type 0) (xs : List A) (i : ℕ) (x : A) → AllByRecursion P xs → slice_get xs i ≡ Some x → P x
all_at P [] i x all e = absurd (cc)
all_at P (y ∷ ys) zero x all e = subst P (some_same y e) all.0
all_at P (y ∷ ys) (suc i) x all e = all_at P ys i x all.1 e

pub all_from : {A : Type 0} (P : A → Type 0) (xs : List A) → ((i : ℕ) (x : A) → slice_get xs i ≡ Some x → P x) → AllByRecursion P xs
all_from P [] each = tt
all_from P (x ∷ xs) each = (each 0 x refl, all_from P xs (λ i. each (suc i)))

pub there : {A : Type 0} (xs : List A) (i : ℕ) → i < length xs → (x : A) × (slice_get xs i ≡ Some x)
there [] i inside = absurd (omega (arith, inside))
there (x ∷ xs) zero inside = (x, refl)
there (x ∷ xs) (suc i) inside = there xs i (omega (arith, inside))

pub test_at : {A : Type 0} (test : A → Bool) (xs : List A) (i : ℕ) (x : A) → list_all test xs ≡ true → slice_get xs i ≡ Some x → test x ≡ true
test_at test [] i x all e = absurd (cc)
test_at test (y ∷ ys) zero x all e = subst (λ z. test z ≡ true) (some_same y e) (and_parts (test y) (list_all test ys) all).0
test_at test (y ∷ ys) (suc i) x all e = test_at test ys i x (and_parts (test y) (list_all test ys) all).1 e

-- where all pass one test, and whoever passes it passes another, not one fails that
pub none_fails : {A : Type 0} (P : A → Type 0) (test : A → Bool) (xs : List A) → AllByRecursion P xs → ((i : ℕ) (x : A) → slice_get xs i ≡ Some x → P x → test x ≡ true) → list_all test xs ≡ false → ⊥
none_fails P test [] all each fails = false≢true (sym fails)
none_fails P test (x ∷ xs) all each fails =
    elim (and_cases (test x) (list_all test xs) fails) [
      | inl e ↦ false≢true (sym e ∙ each 0 x refl all.0)
      | inr e ↦ none_fails P test xs all.1 (λ i. each (suc i)) e
    ]

pub get_map : {A B : Type 0} (f : A → B) (xs : List A) (i : ℕ) (x : A) → slice_get xs i ≡ Some x → slice_get (map f xs) i ≡ Some (f x)
get_map f [] i x e = absurd (cc)
get_map f (y ∷ ys) zero x e = ap (λ z. Some (f z)) (some_same y e)
get_map f (y ∷ ys) (suc i) x e = get_map f ys i x e

pub map_get : {A B : Type 0} (f : A → B) (xs : List A) (i : ℕ) (y : B) → slice_get (map f xs) i ≡ Some y → (x : A) × (slice_get xs i ≡ Some x) × (f x ≡ y)
map_get f [] i y e = absurd (cc)
map_get f (x ∷ xs) zero y e = (x, refl, some_same y e)
map_get f (x ∷ xs) (suc i) y e = map_get f xs i y e

pub all_drop : {A : Type 0} (P : A → Type 0) (xs : List A) (k : ℕ) → AllByRecursion P xs → AllByRecursion P (drop k xs)
all_drop P xs zero all = all
all_drop P [] (suc k) all = tt
all_drop P (x ∷ xs) (suc k) all = all_drop P xs k all.1

-- an element more at the end
pub push_front : {A : Type 0} (xs : List A) (y : A) (i : ℕ) (x : A) → slice_get xs i ≡ Some x → slice_get (xs ++ y ∷ []) i ≡ Some x
push_front [] y i x e = absurd (cc)
push_front (z ∷ zs) y zero x e = e
push_front (z ∷ zs) y (suc i) x e = push_front zs y i x e

pub push_last : {A : Type 0} (xs : List A) (y : A) → slice_get (xs ++ y ∷ []) (length xs) ≡ Some y
push_last [] y = refl
push_last (z ∷ zs) y = push_last zs y

pub push_cases : {A : Type 0} (xs : List A) (y : A) (i : ℕ) (x : A) → slice_get (xs ++ y ∷ []) i ≡ Some x → (slice_get xs i ≡ Some x) ⊎ ((i ≡ length xs) × (y ≡ x))
push_cases [] y zero x e = inr (refl, some_same y e)
push_cases [] y (suc i) x e = absurd (cc)
push_cases (z ∷ zs) y zero x e = inl e
push_cases (z ∷ zs) y (suc i) x e = go (push_cases zs y i x e)
  where
    go : ((slice_get zs i ≡ Some x) ⊎ ((i ≡ length zs) × (y ≡ x))) → (slice_get zs i ≡ Some x) ⊎ ((suc i ≡ suc (length zs)) × (y ≡ x))
    go (inl old) = inl old
    go (inr (at, is)) = inr (ap suc at, is)

pub replicate_at : {A : Type 0} (n i : ℕ) (x y : A) → slice_get (replicate n x) i ≡ Some y → x ≡ y
replicate_at zero i x y e = absurd (cc)
replicate_at (suc n) zero x y e = some_same x e
replicate_at (suc n) (suc i) x y e = replicate_at n i x y e

pub none_in : {A : Type 0} (xs : List A) (i : ℕ) (x : A) → xs ≡ [] → slice_get xs i ≡ Some x → ⊥
none_in [] i x none e = cc
none_in (y ∷ ys) i x none e = cc
