-- The numbers of a range are integers of 64 bits, and stand in ascending order.
use Rattle.std.specs.Prelude.{◌≡◌, refl, ℕ, ℤ, zero, suc, pos, negsuc, ◌^◌, ◌+ℤ◌, neg_ℤ, int_lt, ◌<ℤ◌, ◌≤ℤ◌, true}
use Rattle.std.specs.Int.{int_gap}
use Rattle.std.specs.Ordering.{int_cmp}
use Rattle.std.specs.declared.cmp.Ordering.TheVariants.{Less}
use Rattle.std.proofs.Common.{◌∙◌, arith, inl, inr}
use Rattle.std.proofs.lemmas.Bool.{ltb-true, lt-ltb}
use Rattle.std.proofs.lemmas.Int.{ints}
use Rattle.da_values.specs.declared.val.Val.{Val}
use Rattle.da_values.specs.declared.val.Val.TheVariants as val
use Rattle.da_values.specs.Narrow.{is_i64}
use Rattle.da_values.specs.Order.{val_cmp}
use Rattle.da_values.specs.Sets.{Has, Below, Ascends}
use Rattle.da_values.proofs.OrderAt.{val_cmp-Int}
use Rattle.da_lang.specs.Arithmetic.{numbers_from}

i64_above : (z : ℤ) → is_i64 z ≡ true → neg_ℤ (pos (2 ^ 63)) ≤ℤ z
i64_above (pos n) small = omega (arith, ints)
i64_above (negsuc n) small = let less = ltb-true n (2 ^ 63) small in omega (arith, ints, less)

i64_below : (z : ℤ) → is_i64 z ≡ true → z <ℤ pos (2 ^ 63)
i64_below (pos n) small = let less = ltb-true n (2 ^ 63) small in omega (arith, ints, less)
i64_below (negsuc n) small = omega (arith, ints)

i64_between : (z : ℤ) → neg_ℤ (pos (2 ^ 63)) ≤ℤ z → z <ℤ pos (2 ^ 63) → is_i64 z ≡ true
i64_between (pos n) low high = lt-ltb n (2 ^ 63) (omega (arith, ints, high))
i64_between (negsuc n) low high = lt-ltb n (2 ^ 63) (omega (arith, ints, low))

-- each of them
of_numbers : (a : ℤ) (n : ℕ) (v : Val) → Has (numbers_from a n) v → (z : ℤ) × (v ≡ val.Int z) × (a ≤ℤ z) × (z <ℤ (a +ℤ pos n))
of_numbers a zero v h = absurd h
of_numbers a (suc n) v (inl is) = (a, is, omega (arith, ints), omega (arith, ints))
of_numbers a (suc n) v (inr h) = let (z, is, low, high) = of_numbers (a +ℤ pos 1) n v h in (z, is, omega (arith, ints, low), omega (arith, ints, high))

gap_within : (a b : ℤ) → is_i64 a ≡ true → is_i64 b ≡ true → (a +ℤ pos (int_gap a b)) ≤ℤ pos (2 ^ 63)
gap_within (pos a) (pos b) small_a small_b = omega (arith, ints, i64_below (pos a) small_a, i64_below (pos b) small_b)
gap_within (pos a) (negsuc b) small_a small_b = omega (arith, ints, i64_below (pos a) small_a)
gap_within (negsuc a) (pos b) small_a small_b = omega (arith, ints, i64_below (pos b) small_b)
gap_within (negsuc a) (negsuc b) small_a small_b = omega (arith, ints)

pub numbers_small : (a b : ℤ) → is_i64 a ≡ true → is_i64 b ≡ true → (v : Val) → Has (numbers_from a (int_gap a b)) v → (z : ℤ) × (v ≡ val.Int z) × (is_i64 z ≡ true)
numbers_small a b small_a small_b v h =
    let (z, is, low, high) = of_numbers a (int_gap a b) v h in
    (z, is, i64_between z (omega (arith, ints, low, i64_above a small_a)) (omega (arith, ints, high, gap_within a b small_a small_b)))

less_numbers : (x y : ℤ) → x <ℤ y → int_cmp x y ≡ Less
less_numbers x y less = let is : int_lt x y ≡ true = grind (arith, ints) in rw is refl

below_numbers : (x a : ℤ) (n : ℕ) → x <ℤ a → Below val_cmp (val.Int x) (numbers_from a n)
below_numbers x a zero less = tt
below_numbers x a (suc n) less = (val_cmp-Int x a ∙ less_numbers x a less, below_numbers x (a +ℤ pos 1) n (omega (arith, ints, less)))

pub numbers_ascend : (a : ℤ) (n : ℕ) → Ascends val_cmp (numbers_from a n)
numbers_ascend a zero = tt
numbers_ascend a (suc n) = (below_numbers a (a +ℤ pos 1) n (omega (arith, ints)), numbers_ascend (a +ℤ pos 1) n)
