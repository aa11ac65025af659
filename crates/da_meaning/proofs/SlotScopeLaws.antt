-- Names that come into scope in two steps.
use Rattle.std.proofs.Common.{◌≡◌, ◌∙◌, ap, sym, refl, ℕ, suc, ◌+◌, List, [], ◌∷◌, ◌++◌, length, arith, map}
use Rattle.std.proofs.lemmas.List.Sums.{sum_by-cons}
use Rattle.da_lang.specs.ExprMeaning.{Meaning, InRow, numbered, in_row, width, with_row}
use Rattle.da_lang.specs.Scopes.{Scope}

pub numbered-append : (means : ℕ → Meaning) (first : ℕ) (xs ys : List (List ℕ)) (scope : Scope Meaning)
    → numbered means first (xs ++ ys) scope ≡ numbered means (first + length xs) ys (numbered means first xs scope)
numbered-append means first [] ys scope =
    let same : first ≡ first + 0 = omega arith in
    ap (λ n. numbered means n ys scope) same
numbered-append means first (x ∷ xs) ys scope =
    let same : suc first + length xs ≡ first + length (x ∷ xs) = omega arith in
    let inner = (x, means first) ∷ scope in
    numbered-append means (suc first) xs ys inner ∙ ap (λ n. numbered means n ys (numbered means (suc first) xs inner)) same

width-numbered : (first : ℕ) (names : List (List ℕ)) (scope : Scope Meaning) → width (numbered InRow first names scope) ≡ length names + width scope
width-numbered first [] scope = omega arith
width-numbered first (x ∷ xs) scope =
    let wider : width ((x, InRow first) ∷ scope) ≡ suc (width scope) = omega (arith, sum_by-cons (λ (n : ℕ). n) 1 (map (λ (entry : List ℕ × Meaning). in_row entry.1) scope)) in
    width-numbered (suc first) xs ((x, InRow first) ∷ scope) ∙ omega (arith, wider)

-- the row with some variables, and then with others
pub with_row-append : (xs ys : List (List ℕ)) (scope : Scope Meaning) → with_row (xs ++ ys) scope ≡ with_row ys (with_row xs scope)
with_row-append xs ys scope =
    let grown = with_row xs scope in
    let same : suc (width scope) + length xs ≡ suc (width grown) = omega (arith, width-numbered (suc (width scope)) xs scope) in
    numbered-append InRow (suc (width scope)) xs ys scope ∙ ap (λ n. numbered InRow n ys grown) same
