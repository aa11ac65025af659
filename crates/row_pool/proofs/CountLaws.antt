-- How often an id stands in a list.
use Rattle.std.specs.Prelude.{◌≡◌, ℕ, zero, suc, ◌+◌, ◌<◌, ◌≤◌, length, List, [], ◌∷◌, ◌++◌, Some, remove, slice_get}
use Rattle.std.proofs.Common.{ap, arith}
use Rattle.std.proofs.lemmas.Bool.Decides.{nat_tests}
use Rattle.row_pool.specs.Cells.{count}

pub count_self : (k : ℕ) → count k (k ∷ []) ≡ 1
count_self k = grind (arith, nat_tests)

pub count_other : (k i : ℕ) → (k ≡ i → ⊥) → count k (i ∷ []) ≡ 0
count_other k i other = grind (arith, nat_tests)

pub count_more : (k i : ℕ) (xs : List ℕ) → count k (i ∷ xs) ≡ count k (i ∷ []) + count k xs
count_more k i xs = omega arith

pub count_append : (k : ℕ) (xs ys : List ℕ) → count k (xs ++ ys) ≡ count k xs + count k ys
count_append k [] ys = omega arith
count_append k (x ∷ xs) ys = omega (arith, count_more k x (xs ++ ys), count_more k x xs, count_append k xs ys)

pub count_most : (k : ℕ) (xs : List ℕ) → count k xs ≤ length xs
count_most k [] = omega arith
count_most k (x ∷ xs) = grind (arith, nat_tests, count_most k xs)

-- what stands at a place is counted, and is counted once less where it is taken out
pub count_at : (xs : List ℕ) (i k : ℕ) → slice_get xs i ≡ Some k → 0 < count k xs
count_at [] i k at = absurd (cc at)
count_at (x ∷ xs) zero k at = let same : x ≡ k = cc at in omega (arith, count_more k x xs, ap (λ n. count k (n ∷ [])) same, count_self k)
count_at (x ∷ xs) (suc i) k at = omega (arith, count_more k x xs, count_at xs i k at)

pub count_remove : (xs : List ℕ) (i k : ℕ) → slice_get xs i ≡ Some k → (j : ℕ) → count j (remove xs i) + count j (k ∷ []) ≡ count j xs
count_remove [] i k at j = absurd (cc at)
count_remove (x ∷ xs) zero k at j = let same : x ≡ k = cc at in omega (arith, count_more j x xs, ap (λ n. count j (n ∷ [])) same)
count_remove (x ∷ xs) (suc i) k at j = omega (arith, count_more j x xs, count_more j x (remove xs i), count_remove xs i k at j)
