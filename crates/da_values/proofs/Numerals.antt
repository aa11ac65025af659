-- The decimal texts of numbers of up to 128 bits.
use Rattle.std.specs.Prelude.{◌≡◌, ◌≢◌, ◌||◌, ℕ, ℤ, pos, negsuc, zero, suc, ◌^◌, ◌<◌, ◌≤◌, false, FitsSigned, List, [], ◌∷◌, decimal, Result, Ok, refl}
use Rattle.std.specs.Fmt.{signed_decimal}
use Rattle.std.specs.Int.{w128}
use Rattle.std.specs.List.{list_any}
use Rattle.std.specs.Str.{IsAscii}
use Rattle.std.specs.Str.Parse.{AllDigits, IsNumeral, digits_value, ParsesSigned}
use Rattle.std.proofs.Common.{◌∙◌, ap, sym, subst, arith, lit<, drop, neg_ℤ}
use Rattle.std.proofs.lemmas.Bool.Decides.{nat_tests}
use Rattle.std.proofs.lemmas.Fmt.{decimal_is_IsNumeral_wide, IsAscii-decimal_wide}
use Rattle.std.proofs.lemmas.Result.{Ok-from_Ok_iff}
use Rattle.std.proofs.lemmas.Str.Parse.{digit_from_value, numerals_by_value, tells_digits, parse_signed_digits, parse_signed_minus}
use Rattle.da_values.specs.Reading.{is_stop}

pub below_wide : (n : ℕ) → n ≤ 2 ^ 127 → n < 10 ^ 64
below_wide n small = let big : 2 ^ 127 < 10 ^ 64 = lit< tt in omega (arith, small, big)

numeral : (n : ℕ) → n ≤ 2 ^ 127 → IsNumeral 10 (decimal n) × (digits_value 10 (decimal n) ≡ n)
numeral n small = decimal_is_IsNumeral_wide n (below_wide n small)

pub decimal_injective_wide : (m n : ℕ) → m ≤ 2 ^ 127 → n ≤ 2 ^ 127 → decimal m ≡ decimal n → m ≡ n
decimal_injective_wide m n p q e = sym (numeral m p).1 ∙ ap (digits_value 10) e ∙ (numeral n q).1

-- the first byte is a digit
first_of : (ds : List ℕ) → IsNumeral 10 ds → (d : ℕ) × (rest : List ℕ) × (ds ≡ d ∷ rest) × (48 ≤ d) × (d ≤ 57)
first_of [] is = absurd (omega (arith, is.0))
first_of (d ∷ rest) is = let range = digit_from_value d is.1.0 in (d, rest, refl, range.0, range.1)

pub first-decimal : (n : ℕ) → n ≤ 2 ^ 127 → (d : ℕ) × (rest : List ℕ) × (decimal n ≡ d ∷ rest) × (48 ≤ d) × (d ≤ 57)
first-decimal n small = first_of (decimal n) (numeral n small).0

-- the first byte is a digit or `-`
pub first-signed_decimal : (z : ℤ) → FitsSigned w128 z → (d : ℕ) × (rest : List ℕ) × (signed_decimal z ≡ d ∷ rest) × (45 ≤ d) × (d ≤ 57)
first-signed_decimal (pos n) fits = let first = first-decimal n (omega (arith, fits.sfits)) in (first.0, first.1, first.2, omega (arith, first.3), first.4)
first-signed_decimal (negsuc n) fits = (45, decimal (suc n), refl, omega arith, omega arith)

decimal-ne_minus : (n : ℕ) (ds : List ℕ) → n ≤ 2 ^ 127 → decimal n ≢ 45 ∷ ds
decimal-ne_minus n ds small e =
    let first = first-decimal n small in
    let same : 45 ∷ ds ≡ first.0 ∷ first.1 = sym e ∙ first.2 in
    let head : 45 ≡ first.0 = cc in
    omega (arith, head, first.3)

pub signed_decimal_injective_wide : (y z : ℤ) → FitsSigned w128 y → FitsSigned w128 z → signed_decimal y ≡ signed_decimal z → y ≡ z
signed_decimal_injective_wide (pos m) (pos n) p q e = ap pos (decimal_injective_wide m n (omega (arith, p.sfits)) (omega (arith, q.sfits)) e)
signed_decimal_injective_wide (pos m) (negsuc n) p q e = absurd (decimal-ne_minus m (decimal (suc n)) (omega (arith, p.sfits)) e)
signed_decimal_injective_wide (negsuc m) (pos n) p q e = absurd (decimal-ne_minus n (decimal (suc m)) (omega (arith, q.sfits)) (sym e))
signed_decimal_injective_wide (negsuc m) (negsuc n) p q e =
    ap negsuc (omega (arith, decimal_injective_wide (suc m) (suc n) (omega (arith, p.sfits)) (omega (arith, q.sfits)) (ap (drop 1) e)))

-- what `parse` gives of such a text
pub parse-signed_decimal_wide : {E : Type 0} (z : ℤ) (bs : List ℕ) (r : Result ℤ E) → FitsSigned w128 z → bs ≡ signed_decimal z → ParsesSigned w128 10 bs r → r ≡ Ok z
parse-signed_decimal_wide (pos n) bs r fits is h =
    let k = numeral n (omega (arith, fits.sfits)) in
    let read = parse_signed_digits (numerals_by_value _ tells_digits) w128 (decimal n) r (subst (λ l. ParsesSigned w128 10 l r) is h) k.0.1 in
    Ok-from_Ok_iff r _ _ read (k.0.0, omega (arith, k.1, fits.sfits)) ∙ ap (λ m. Ok (pos m)) k.1
parse-signed_decimal_wide (negsuc n) bs r fits is h =
    let k = numeral (suc n) (omega (arith, fits.sfits)) in
    let read = parse_signed_minus (numerals_by_value _ tells_digits) w128 (45 ∷ decimal (suc n)) r (subst (λ l. ParsesSigned w128 10 l r) is h) refl in
    Ok-from_Ok_iff r _ _ read (k.0.1, k.0.0, omega (arith, k.1, fits.sfits)) ∙ ap (λ m. Ok (neg_ℤ (pos m))) k.1

pub IsAscii-signed_decimal_wide : (z : ℤ) → FitsSigned w128 z → IsAscii (signed_decimal z)
IsAscii-signed_decimal_wide (pos n) fits i = IsAscii-decimal_wide n (below_wide n (omega (arith, fits.sfits))) i
IsAscii-signed_decimal_wide (negsuc n) fits zero = omega arith
IsAscii-signed_decimal_wide (negsuc n) fits (suc i) = IsAscii-decimal_wide (suc n) (below_wide (suc n) (omega (arith, fits.sfits))) i

-- no byte may stand after a value
not_stop : (d : ℕ) → 48 ≤ d → d ≤ 57 → is_stop d ≡ false
not_stop d low high = grind (arith, nat_tests)

no_stop : (ds : List ℕ) → AllDigits 10 ds → list_any is_stop ds ≡ false
no_stop [] each = refl
no_stop (d ∷ ds) each = let range = digit_from_value d each.0 in ap (λ b. b || list_any is_stop ds) (not_stop d range.0 range.1) ∙ no_stop ds each.1

pub no_stop-decimal : (n : ℕ) → n ≤ 2 ^ 127 → list_any is_stop (decimal n) ≡ false
no_stop-decimal n small = no_stop (decimal n) (numeral n small).0.1

pub no_stop-signed_decimal : (z : ℤ) → FitsSigned w128 z → list_any is_stop (signed_decimal z) ≡ false
no_stop-signed_decimal (pos n) fits = no_stop-decimal n (omega (arith, fits.sfits))
no_stop-signed_decimal (negsuc n) fits = no_stop-decimal (suc n) (omega (arith, fits.sfits))
