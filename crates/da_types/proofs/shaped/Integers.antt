-- Integers of 64 bits: what is left by a division is one, and so is each number of a range.
use Rattle.std.specs.Prelude.{◌≡◌, refl, ℕ, ℤ, zero, suc, pos, negsuc, ◌-◌, ◌/◌, ◌%◌, ◌^◌, ◌<◌, ◌≤◌, ◌-ℤ◌, ◌*ℤ◌, neg_ℤ, int_lt, unsigned_abs, true, false, FitsSigned}
use Rattle.std.specs.Int.{w128, int_div_euclid}
use Rattle.std.proofs.Common.{arith}
use Rattle.std.proofs.lemmas.Bool.{ltb-true, lt-ltb, le-ltb}
use Rattle.std.proofs.lemmas.Int.{ints, fits_signed_from_abs}
use Rattle.std.proofs.lemmas.Nat.{div-add-mod', mod_below}
use Rattle.da_values.specs.Narrow.{is_i64}
use Rattle.da_lang.specs.Arithmetic.{remainder}

-- by the absolute value
pub is_i64_below : (z : ℤ) → unsigned_abs z < 2 ^ 63 → is_i64 z ≡ true
is_i64_below (pos n) small = lt-ltb n (2 ^ 63) small
is_i64_below (negsuc n) small = lt-ltb n (2 ^ 63) (omega (arith, small))

pub abs_of_i64 : (z : ℤ) → is_i64 z ≡ true → unsigned_abs z ≤ 2 ^ 63
abs_of_i64 (pos n) small = omega (arith, ltb-true n (2 ^ 63) small)
abs_of_i64 (negsuc n) small = omega (arith, ltb-true n (2 ^ 63) small)

-- an integer of 64 bits is one of 128
pub fits_wide : (z : ℤ) → is_i64 z ≡ true → FitsSigned w128 z
fits_wide z small = fits_signed_from_abs w128 z (omega (arith, abs_of_i64 z small))

-- the quotient by a positive number, and by a negative one
not_below : (n : ℕ) → int_lt (pos (suc n)) (pos 0) ≡ false
not_below n = le-ltb (suc n) 0 (omega arith)

-- what is left lies between 0 and the divisor
left_by_pos : (a : ℤ) (n : ℕ) → unsigned_abs (a -ℤ pos (suc n) *ℤ int_div_euclid a (pos (suc n))) < suc n
left_by_pos (pos x) n =
    let whole = div-add-mod' x (suc n) in
    let less = mod_below x (suc n) (omega arith) in
    let is : pos x -ℤ pos (suc n) *ℤ pos (x / suc n) ≡ pos (x % suc n) = omega (arith, ints, whole) in
    rw is less
left_by_pos (negsuc x) n =
    let whole = div-add-mod' x (suc n) in
    let less = mod_below x (suc n) (omega arith) in
    let is : negsuc x -ℤ pos (suc n) *ℤ negsuc (x / suc n) ≡ pos (n - x % suc n) = omega (arith, ints, whole, less) in
    rw is (omega arith)

abs_of_neg : (m : ℕ) → unsigned_abs (neg_ℤ (pos m)) ≡ m
abs_of_neg zero = refl
abs_of_neg (suc m) = refl

left_by_neg : (a : ℤ) (n : ℕ) → unsigned_abs (a -ℤ negsuc n *ℤ int_div_euclid (neg_ℤ a) (pos (suc n))) < suc n
left_by_neg (pos zero) n =
    let whole = div-add-mod' 0 (suc n) in
    let is : pos 0 -ℤ negsuc n *ℤ pos (0 / suc n) ≡ pos 0 = omega (arith, ints, whole) in
    rw is (omega arith)
left_by_neg (pos (suc x)) n =
    let whole = div-add-mod' x (suc n) in
    let less = mod_below x (suc n) (omega arith) in
    let is : pos (suc x) -ℤ negsuc n *ℤ negsuc (x / suc n) ≡ neg_ℤ (pos (n - x % suc n)) = omega (arith, ints, whole, less) in
    rw (is, abs_of_neg) (omega arith)
left_by_neg (negsuc x) n =
    let whole = div-add-mod' (suc x) (suc n) in
    let less = mod_below (suc x) (suc n) (omega arith) in
    let is : negsuc x -ℤ negsuc n *ℤ pos (suc x / suc n) ≡ neg_ℤ (pos (suc x % suc n)) = omega (arith, ints, whole, less) in
    rw (is, abs_of_neg) less

pub remainder_below_pos : (a : ℤ) (n : ℕ) → unsigned_abs (remainder a (pos (suc n))) < suc n
remainder_below_pos a n = rw (not_below n) (left_by_pos a n)

pub remainder_below_neg : (a : ℤ) (n : ℕ) → unsigned_abs (remainder a (negsuc n)) < suc n
remainder_below_neg a n = left_by_neg a n
