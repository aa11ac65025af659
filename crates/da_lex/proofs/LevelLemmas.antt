-- Levels that are popped, and tokens that are added for them.
use Rattle.std.proofs.Common.{◌≡◌, ℕ, zero, suc, ◌+◌, ◌<◌, ◌≤◌, List, [], ◌∷◌, ◌++◌, replicate, refl, ap, ◌∙◌, append_assoc, add-one, arith}
use Rattle.std.proofs.lemmas.Bool.Decides.{nat_tests}
use Rattle.da_values.specs.declared.token.Token.{Token}
use Rattle.da_values.specs.Tokens.{top, popped}

replicate-suc : (n : ℕ) (t : Token) → replicate (suc n) t ≡ replicate n t ++ t ∷ []
replicate-suc zero t = refl
replicate-suc (suc n) t = ap (λ l. t ∷ l) (replicate-suc n t)

-- one more at the end
pub repeat_more : (old now : List Token) (n : ℕ) (t : Token) → now ≡ old ++ replicate n t → now ++ t ∷ [] ≡ old ++ replicate (n + 1) t
repeat_more old now n t e = rw (add-one, replicate-suc n t) (ap (λ l. l ++ t ∷ []) e ∙ append_assoc old (replicate n t) (t ∷ []))

-- a greater level is popped
pub popped-cons : (level l : ℕ) (ls : List ℕ) → level < l → popped level (l ∷ ls) ≡ popped level ls
popped-cons level l ls greater = grind (arith, nat_tests)

-- no level is popped where the innermost is not greater
pub popped-none : (level : ℕ) (ls : List ℕ) → top ls ≤ level → popped level ls ≡ ls
popped-none level [] small = refl
popped-none level (l ∷ ls) small = grind (arith, nat_tests)
