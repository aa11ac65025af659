-- Members of lists by their places and by their numbers.
use Rattle.std.proofs.Common.{Bor, ◌≡◌, refl, sym, ◌∙◌, ap, ℕ, zero, suc, ◌+◌, ◌<◌, ◌≤◌, true, List, [], ◌∷◌, ◌++◌, length, map, arith}
use Rattle.std.specs.Prelude.{Option, Some, None, IfSome, is_some, option_copied, remove, slice_get, slice_index_or, slice_set}
use Rattle.std.specs.Slice.{IsItemAt}
use Rattle.std.proofs.lemmas.Bool.{false≢true}
use Rattle.std.proofs.lemmas.Option.{slice_get_past, slice_get_read, slice_get_within}
use Rattle.da_lang.specs.World.{at_number}
use Rattle.da_system.specs.Channels.{put_numbered}

pub get_is : {A : Type 0} (xs : List A) (place : ℕ) (d : A) → place < length xs → slice_get xs place ≡ Some (slice_index_or xs place d)
get_is [] place d inside = absurd (omega (arith, inside))
get_is (x ∷ xs) zero d inside = refl
get_is (x ∷ xs) (suc place) d inside = get_is xs place d (omega (arith, inside))

pub numbered_at : {A : Type 0} (xs : List A) (p place : ℕ) (x : A) → p ≡ place + 1 → place < length xs → x ≡ slice_index_or xs place x → at_number xs p ≡ Some x
numbered_at xs zero place x is inside same = absurd (omega (arith, is))
numbered_at xs (suc k) place x is inside same = ap (slice_get xs) (let here : k ≡ place = omega (arith, is) in here) ∙ get_is xs place x inside ∙ ap Some (sym same)

pub numbered_put : {A : Type 0} (xs : List A) (p place : ℕ) (x : A) → p ≡ place + 1 → slice_set xs place x ≡ put_numbered xs p x
numbered_put xs zero place x is = absurd (omega (arith, is))
numbered_put xs (suc k) place x is = ap (λ n. slice_set xs n x) (let here : place ≡ k = omega (arith, is) in here)

pub set_same : {A : Type 0} (xs : List A) (place : ℕ) (x y : A) → y ≡ x → x ≡ slice_index_or xs place x → slice_set xs place y ≡ xs
set_same [] place x y same is = refl
set_same (z ∷ zs) zero x y same is = ap (λ h. h ∷ zs) (same ∙ is)
set_same (z ∷ zs) (suc place) x y same is = ap (λ t. z ∷ t) (set_same zs place x y same is)

-- a number at which there is a member
pub numbered_within : {A : Type 0} (xs : List A) (p : ℕ) (x : A) → at_number xs p ≡ Some x → (0 < p) × (p ≤ length xs)
numbered_within xs zero x there = absurd (false≢true (ap is_some there))
numbered_within xs (suc place) x there = (omega arith, omega (arith, slice_get_within xs place x there))

pub within_numbers : {A : Type 0} (xs : List A) (p : ℕ) → is_some (at_number xs p) ≡ true → (0 < p) × (p ≤ length xs)
within_numbers {A} xs p there = of (at_number xs p) refl there
  where
    of : (found : Option A) → at_number xs p ≡ found → is_some found ≡ true → (0 < p) × (p ≤ length xs)
    of None is some = absurd (false≢true some)
    of (Some x) is some = numbered_within xs p x is

-- what is lent out of a list at a place
pub lent_at : {A : Type 0} (xs : List A) (k : ℕ) (r : Option (Bor A)) → IsItemAt xs k r → option_copied r ≡ slice_get xs k
lent_at xs k None item = sym (slice_get_past xs k item.3)
lent_at xs k (Some x) item = sym (slice_get_read xs (length xs) k x.now refl item.3.0 item.1)

-- THE SAME OF WHAT THE MEMBERS ARE MAPPED TO

module _ {A B : Type 0} (f : A → B) where
  pub map_set : (xs : List A) (k : ℕ) (x : A) → map f (slice_set xs k x) ≡ slice_set (map f xs) k (f x)
  map_set [] k x = refl
  map_set (y ∷ ys) zero x = refl
  map_set (y ∷ ys) (suc k) x = ap (λ (t : List B). f y ∷ t) (map_set ys k x)

  pub map_then : (xs ys : List A) → map f (xs ++ ys) ≡ map f xs ++ map f ys
  map_then [] ys = refl
  map_then (x ∷ xs) ys = ap (λ (t : List B). f x ∷ t) (map_then xs ys)

  pub map_remove : (xs : List A) (k : ℕ) → map f (remove xs k) ≡ remove (map f xs) k
  map_remove [] zero = refl
  map_remove [] (suc k) = refl
  map_remove (x ∷ xs) zero = refl
  map_remove (x ∷ xs) (suc k) = ap (λ (t : List B). f x ∷ t) (map_remove xs k)

-- what is taken out of a list at a place
none_there : {A : Type 0} (xs : List A) (k : ℕ) → (k < length xs → ⊥) → slice_get xs k ≡ None
none_there [] k none = refl
none_there (x ∷ xs) zero none = absurd (none (omega arith))
none_there (x ∷ xs) (suc k) none = none_there xs k (λ less. none (omega (arith, less)))

pub taken_at : {A : Type 0} (xs : List A) (k : ℕ) (r : Option A) → IfSome r (λ x. x ≡ slice_index_or xs k x) → (is_some r ≡ true → k < length xs) → (k < length xs → is_some r ≡ true) → r ≡ slice_get xs k
taken_at xs k None value inside there = sym (none_there xs k (λ less. false≢true (there less)))
taken_at xs k (Some x) value inside there = sym (slice_get_read xs (length xs) k x refl (inside refl) value)
