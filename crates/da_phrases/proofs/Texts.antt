-- The bytes that a text may hold, as a test and as a fact.
use Rattle.std.proofs.Common.{◌≡◌, ℕ, true, false, List, arith}
use Rattle.std.proofs.Common.{inl, inr}
use Rattle.std.proofs.lemmas.Bool.{cases_Bool}
use Rattle.std.proofs.lemmas.Bool.Decides.{nat_tests}
use Rattle.std.specs.List.{All, list_all}
use Rattle.std.proofs.lemmas.List.Sums.{AllPass-from_list_all, list_all-from_AllPass}
use Rattle.da_values.specs.Str.{IsTextByte}
use Rattle.da_values.specs.Piece.{in_quotes}

text_byte : (byte : ℕ) → IsTextByte byte → in_quotes byte ≡ true
text_byte byte h = grind (arith, nat_tests, h.0, h.1, h.2)

byte_of_text : (byte : ℕ) → in_quotes byte ≡ true → IsTextByte byte
byte_of_text byte e = (grind (arith, nat_tests), grind (arith, nat_tests), grind (arith, nat_tests))

pub are_text : (bytes : List ℕ) → All IsTextByte bytes → list_all in_quotes bytes ≡ true
are_text bytes all = list_all-from_AllPass in_quotes bytes (λ k d h. text_byte _ (all k d h))

pub no_text : (bytes : List ℕ) → (All IsTextByte bytes → ⊥) → list_all in_quotes bytes ≡ false
no_text bytes none = elim (cases_Bool (list_all in_quotes bytes)) [
  | inl all ↦ absurd (none (λ k d h. byte_of_text _ (AllPass-from_list_all in_quotes bytes all k d h)))
  | inr other ↦ other
]
