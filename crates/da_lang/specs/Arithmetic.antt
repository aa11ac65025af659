-- Arithmetic outside queries: integers of 64 bits, and sets.
use Rattle.std.specs.Prelude.{ℕ, zero, suc, pos, negsuc, ℤ, ◌+ℤ◌, ◌-ℤ◌, ◌*ℤ◌, neg_ℤ, int_lt, nat_le, Bool, true, false, if◌then◌else◌, List, [], ◌∷◌, Result, Ok, Err}
use Rattle.std.specs.Int.{int_div_euclid, int_gap}
use Rattle.da_values.specs.declared.val.Val.{Val, out-Val}
use Rattle.da_values.specs.declared.val.Val.TheVariants as val
use Rattle.da_values.specs.declared.val.Val.TheOpen.{Val-F, Set}
use Rattle.da_values.specs.Narrow.{is_i64}
use Rattle.da_values.specs.Order.{val_cmp}
use Rattle.da_values.specs.Sets.{set_union, set_difference, set_intersection}
use Rattle.da_values.specs.Views.{int_in}
use Rattle.da_lang.specs.declared.event.FaultKind.{FaultKind}
use Rattle.da_lang.specs.declared.event.FaultKind.TheVariants.{Overflow, Divide, Range}
use Rattle.da_lang.specs.declared.tree.ArithOp.{ArithOp}
use Rattle.da_lang.specs.declared.tree.ArithOp.TheVariants.{Plus, Minus, Times, Div, Mod}

-- a value, or why there is none
abbrev pub Outcome : Type 0
Outcome = Result Val FaultKind

-- an integer that has to fit
abbrev pub fitted : ℤ → Outcome
fitted z = if is_i64 z then Ok (val.Int z) else Err Overflow

-- the quotient rounded down, for a divisor that is not 0
abbrev pub quotient : ℤ → ℤ → ℤ
quotient a b = if int_lt b (pos 0) then int_div_euclid (neg_ℤ a) (neg_ℤ b) else int_div_euclid a b

-- what the quotient leaves, which has the sign of the divisor
abbrev pub remainder : ℤ → ℤ → ℤ
remainder a b = a -ℤ b *ℤ quotient a b

-- the result of a division, which a divisor of 0 has not
abbrev pub divided : ℤ → Outcome → Outcome
divided (pos zero) result = Err Divide
divided (pos (suc n)) result = result
divided (negsuc n) result = result

abbrev pub of_numbers : ArithOp → ℤ → ℤ → Outcome
of_numbers Plus a b = fitted (a +ℤ b)
of_numbers Minus a b = fitted (a -ℤ b)
of_numbers Times a b = fitted (a *ℤ b)
of_numbers Div a b = divided b (fitted (quotient a b))
of_numbers Mod a b = divided b (Ok (val.Int (remainder a b)))

-- union, difference and intersection; sets have no other operation
abbrev pub of_sets : ArithOp → List Val → List Val → List Val
of_sets Plus xs ys = set_union val_cmp xs ys
of_sets Minus xs ys = set_difference val_cmp xs ys
of_sets Times xs ys = set_intersection val_cmp xs ys
of_sets _ xs ys = []

-- of two sets, or else of two numbers, where an operand that is no number counts as 0
abbrev pub of_layers : ArithOp → Val-F Val → Val-F Val → Outcome
of_layers op (Set xs) (Set ys) = Ok (val.Set (of_sets op xs ys))
of_layers op a b = of_numbers op (int_in a) (int_in b)

-- an operation on two values
abbrev pub arithmetic : ArithOp → Val → Val → Outcome
arithmetic op a b = of_layers op (out-Val a) (out-Val b)

-- the numbers a, a + 1, .., so many
abbrev pub numbers_from : ℤ → ℕ → List Val
numbers_from a zero = []
numbers_from a (suc n) = val.Int a ∷ numbers_from (a +ℤ pos 1) n

-- how many numbers a range may have
unfoldable pub max_range : ℕ
max_range = 100000

abbrev pub range_if : Bool → ℤ → ℕ → Outcome
range_if true a n = Ok (val.Set (numbers_from a n))
range_if false a n = Err Range

-- the numbers from a up to b, without b
abbrev pub range : ℤ → ℤ → Outcome
range a b = range_if (nat_le (int_gap a b) max_range) a (int_gap a b)
