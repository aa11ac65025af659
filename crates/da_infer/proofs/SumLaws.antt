-- A sum over a list, in a loop that goes through it.
use Rattle.std.specs.Prelude.{◌≡◌, refl, ℕ, ◌+◌, ◌<◌, ◌≤◌, List, [], ◌∷◌, ◌++◌, length, map, drop, sum}
use Rattle.std.proofs.Common.{◌∙◌, sym, ap, get_or, arith}
use Rattle.std.proofs.lemmas.List.{drop_more, drop_all}
use Rattle.std.proofs.lemmas.List.Sums.{sum_by-cons}

next_of : {A : Type 0} (xs : List A) (at : ℕ) (x : A) → at < length xs → x ≡ get_or xs at x → drop at xs ≡ x ∷ drop (at + 1) xs
next_of xs at x within here = drop_more xs at x within ∙ ap (λ z. z ∷ drop (at + 1) xs) (sym here)

sum_cons : (n : ℕ) (ns : List ℕ) → sum (n ∷ ns) ≡ n + sum ns
sum_cons n ns = sum_by-cons (λ x. x) n ns

abbrev pub Summed : {A : Type 0} → (A → ℕ) → List A → ℕ → ℕ → Type 0
Summed f xs at total = total + sum (map f (drop at xs)) ≡ sum (map f xs)

pub sum_on : {A : Type 0} (f : A → ℕ) (xs : List A) (at : ℕ) (x : A) (total now : ℕ) → at < length xs → x ≡ get_or xs at x → now ≡ total + f x → Summed f xs at total → Summed f xs (at + 1) now
sum_on f xs at x total now within here step so_far =
    omega (arith, step, so_far, ap (λ zs. sum (map f zs)) (next_of xs at x within here), sum_cons (f x) (map f (drop (at + 1) xs)))

pub sum_ends : {A : Type 0} (f : A → ℕ) (xs : List A) (at total : ℕ) → length xs ≤ at → Summed f xs at total → total ≡ sum (map f xs)
sum_ends f xs at total end so_far = omega (arith, so_far, ap (λ zs. sum (map f zs)) (drop_all at xs end), none)
  where
    none : sum [] ≡ 0
    none = refl

pub sum_of : {A : Type 0} (f : A → ℕ) (x : A) (xs : List A) → sum (map f (x ∷ xs)) ≡ f x + sum (map f xs)
sum_of f x xs = sum_cons (f x) (map f xs)

-- a size that was added
pub sum_by : {A B : Type 0} (f : A → List B) (x : A) (made : List B) (size total now : ℕ) → made ≡ f x → size ≡ length made → now ≡ total + size → now ≡ total + length (f x)
sum_by f x made size total now is counted step = omega (arith, ap length is, counted, step)
