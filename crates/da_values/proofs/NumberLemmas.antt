-- Numbers that digits write.
use Rattle.std.proofs.Common.{◌≡◌, ℕ, ◌+◌, ◌-◌, ◌*◌, ◌≤◌, ◌<◌, Bool, true, false, ◌&&◌, List, [], ◌∷◌, length, get_or, refl, arith}
use Rattle.std.proofs.lemmas.Str.{digit_value_digit}
use Rattle.std.proofs.lemmas.Bool.Decides.{nat_tests}
use Rattle.std.specs.Prelude.{nat_le, if◌then◌else◌, Some, None}
use Rattle.std.specs.Char.{digit_value, is_ascii_digit}
use Rattle.std.specs.Int.{IsInRange}
use Rattle.std.specs.List.{list_all}
use Rattle.std.specs.Str.Parse.{digits_value, digits_value_after}
use Rattle.da_values.specs.Piece.{number_max, number_of}

-- more digits write no smaller number
pub digits_value_after-ge : (n : ℕ) (ds : List ℕ) → n ≤ digits_value_after 10 n ds
digits_value_after-ge n [] = omega arith
digits_value_after-ge n (c ∷ cs) = omega (arith, digits_value_after-ge (n * 10 + digit_value c) cs)

in_range : (c : ℕ) → is_ascii_digit c ≡ true → IsInRange 48 57 c
in_range c digit = grind (arith, nat_tests)

digits_value_after-ge_first : (n : ℕ) (ds : List ℕ) → 1 ≤ length ds → is_ascii_digit (get_or ds 0 0) ≡ true → n * 10 + (get_or ds 0 0 - 48) ≤ digits_value_after 10 n ds
digits_value_after-ge_first n [] some digit = absurd (omega arith)
digits_value_after-ge_first n (c ∷ cs) some digit =
    omega (arith, digits_value_after-ge (n * 10 + digit_value c) cs, digit_value_digit c (in_range c digit))

none_above : (value : ℕ) (digits : Bool) → number_max < value → (if digits && nat_le value number_max then Some value else None) ≡ None
none_above value true above = grind arith
none_above value false above = refl

-- a number that is too large already
pub too_large : (n : ℕ) (ds whole : List ℕ) → 1 ≤ length ds → is_ascii_digit (get_or ds 0 0) ≡ true → number_max < n * 10 + (get_or ds 0 0 - 48)
    → digits_value_after 10 n ds ≡ digits_value 10 whole → number_of whole ≡ None
unfolding number_of
too_large n ds whole some digit above is =
    none_above (digits_value 10 whole) (list_all is_ascii_digit whole) (omega (arith, digits_value_after-ge_first n ds some digit, is))
