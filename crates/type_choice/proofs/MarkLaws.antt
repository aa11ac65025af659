-- Lists of marks.
use Rattle.std.specs.Prelude.{◌≡◌, refl, ℕ, zero, suc, ◌+◌, ◌≤◌, Bool, true, false, if◌then◌else◌, List, [], ◌∷◌, ◌++◌, length, replicate, Some, slice_get, slice_set}
use Rattle.std.proofs.Common.{◌∙◌, ap, sym, arith}
use Rattle.std.proofs.lemmas.Bool.{false≢true}
use Rattle.type_table.specs.Settling.{is_marked, mark_in, marked}

pub replicate_more : {A : Type 0} (n : ℕ) (x : A) → replicate (n + 1) x ≡ replicate n x ++ x ∷ []
replicate_more zero x = refl
replicate_more {A} (suc n) x = let e : suc n + 1 ≡ suc (n + 1) = omega arith in ap (λ c. replicate c x) e ∙ ap (λ xs. x ∷ xs) (replicate_more n x)

pub length_of : {A : Type 0} (n : ℕ) (x : A) → length (replicate n x) ≡ n
length_of zero x = refl
length_of (suc n) x = ap suc (length_of n x)

pub none_set : (n i : ℕ) → is_marked (replicate n false) i ≡ true → ⊥
none_set zero i e = false≢true e
none_set (suc n) zero e = false≢true e
none_set (suc n) (suc i) e = none_set n i e

-- one mark more
pub marks_more : (marks : List Bool) (i : ℕ) → slice_get marks i ≡ Some false → marked (slice_set marks i true) ≡ suc (marked marks)
marks_more [] i e = absurd (cc)
marks_more (b ∷ bs) zero e = go b (ap mark_in e)
  where
    go : (b : Bool) → b ≡ false → 1 + marked bs ≡ suc ((if b then 1 else 0) + marked bs)
    go true e = absurd (false≢true (sym e))
    go false e = omega arith
marks_more (b ∷ bs) (suc i) e = let more : marked (slice_set bs i true) ≡ suc (marked bs) = marks_more bs i e in omega (arith, more)

pub marks_most : (marks : List Bool) → marked marks ≤ length marks
marks_most [] = omega arith
marks_most (true ∷ marks) = omega (arith, marks_most marks)
marks_most (false ∷ marks) = omega (arith, marks_most marks)
