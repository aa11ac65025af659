-- One number more in a row.
use Rattle.std.proofs.Common.{◌≡◌, ◌∙◌, ap, sym, ℕ, zero, suc, ◌+◌, List, [], ◌∷◌, ◌++◌, arith}
use Rattle.std.specs.List.{range_with_len}

numbers_suc : (first n : ℕ) → range_with_len first (suc n) ≡ range_with_len first n ++ (first + n) ∷ []
numbers_suc first zero = let same : first ≡ first + 0 = omega arith in ap (λ k. k ∷ []) same
numbers_suc first (suc n) =
    let same : first + 1 + n ≡ first + suc n = omega arith in
    ap (λ ks. first ∷ ks) (numbers_suc (first + 1) n) ∙ ap (λ k. first ∷ range_with_len (first + 1) n ++ k ∷ []) same

pub numbers_more : (first n : ℕ) → range_with_len first (n + 1) ≡ range_with_len first n ++ (first + n) ∷ []
numbers_more first n = let next : n + 1 ≡ suc n = omega arith in ap (range_with_len first) next ∙ numbers_suc first n
