-- Numbers after single spaces: they are cut in one way.
use Rattle.std.proofs.Common.{◌≡◌, ◌≢◌, sym, ◌∙◌, ap, ℕ, ◌≤◌, List, [], ◌∷◌, ◌++◌, arith}
use Rattle.std.specs.Prelude.{decimal}
use Rattle.std.specs.Str.Parse.{AllDigits, digits_value}
use Rattle.std.proofs.lemmas.List.Elements.{All-cons}
use Rattle.std.proofs.lemmas.Fmt.{decimal_is_IsNumeral_wide}
use Rattle.std.proofs.lemmas.Str.Parse.{digit_from_value}
use Rattle.sched_text.specs.Reading.{Stops}
use Rattle.sched_text.proofs.WordLemmas.{IsWord, one_cut}
use Rattle.sched_text.specs.ActionReading.{number_then}
use Rattle.sched_text.specs.ActionLine.{Fits}

-- a number is a word, and its text is its own
digits_word : (ds : List ℕ) → AllDigits 10 ds → IsWord ds
digits_word [] each = λ k d inside. absurd (omega (arith, inside))
digits_word (b ∷ bs) each =
    let range = digit_from_value b each.0 in
    let other : b ≢ 32 = λ same. omega (arith, range.0, same) in
    All-cons (λ byte. byte ≢ 32) b bs other (digits_word bs each.1)

pub number_word : (n : ℕ) → Fits 128 n → IsWord (decimal n)
number_word n small = digits_word (decimal n) (decimal_is_IsNumeral_wide n (omega (arith, small))).0.1

one_number : (m n : ℕ) → Fits 128 m → Fits 128 n → decimal m ≡ decimal n → m ≡ n
one_number m n p q same = sym (decimal_is_IsNumeral_wide m (omega (arith, p))).1 ∙ ap (digits_value 10) same ∙ (decimal_is_IsNumeral_wide n (omega (arith, q))).1

pub one_front : (m n : ℕ) (r s : List ℕ) → Fits 128 m → Fits 128 n → Stops r → Stops s → number_then m r ≡ number_then n s → (m ≡ n) × (r ≡ s)
one_front m n r s p q u v same =
    let tails : decimal m ++ r ≡ decimal n ++ s = cc in
    let (digits, rest) = one_cut (decimal m) (decimal n) r s (number_word m p) (number_word n q) u v tails in
    (one_number m n p q digits, rest)

-- no number up to this one stands at the front, after a space
abbrev pub LacksNumber : ℕ → List ℕ → Type 0
LacksNumber most bytes = (n : ℕ) (rest : List ℕ) → n ≤ most → Stops rest → bytes ≡ number_then n rest → ⊥

pub no_number : (most : ℕ) (bytes after digits rest : List ℕ) → Fits 128 most → bytes ≡ 32 ∷ after → after ≡ digits ++ rest → IsWord digits → Stops rest → ((n : ℕ) → n ≤ most → digits ≡ decimal n → ⊥) → LacksNumber most bytes
no_number most bytes after digits rest small begins cut word stops lacks = λ n others few stop is.
    let both : 32 ∷ (digits ++ rest) ≡ 32 ∷ (decimal n ++ others) = ap (λ t. 32 ∷ t) (sym cut) ∙ sym begins ∙ is in
    let tails : digits ++ rest ≡ decimal n ++ others = cc in
    let (digits_is, rest_is) = one_cut digits (decimal n) rest others word (number_word n (omega (arith, few, small))) stops stop tails in
    lacks n few digits_is

-- what stands after the number at the front
pub rest_of : (m n : ℕ) (bytes r s : List ℕ) → Fits 128 m → Fits 128 n → Stops r → Stops s → bytes ≡ number_then m r → bytes ≡ number_then n s → (m ≡ n) × (r ≡ s)
rest_of m n bytes r s p q u v one other = one_front m n r s p q u v (sym one ∙ other)
