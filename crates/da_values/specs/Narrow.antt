-- Values all of whose integers lie in an i64.
use Rattle.std.specs.Prelude.{ℤ, pos, negsuc, ◌^◌, Bool, true, nat_lt}
use Rattle.std.specs.List.{list_all}
use Rattle.da_values.specs.declared.val.Val.{Val}
use Rattle.da_values.specs.declared.val.Val.TheOpen.{Val-F, Int, Tuple, Set}
use Rattle.da_values.specs.declared.val.Val.TheFolds.{fold-Val}

-- from -2^63 to 2^63 - 1; `negsuc n` is -(n + 1)
abbrev pub is_i64 : ℤ → Bool
is_i64 (pos n) = nat_lt n (2 ^ 63)
is_i64 (negsuc n) = nat_lt n (2 ^ 63)

abbrev pub narrow_step : Val-F Bool → Bool
narrow_step (Int number) = is_i64 number
narrow_step (Tuple parts) = list_all (λ part. part) parts
narrow_step (Set elements) = list_all (λ element. element) elements
narrow_step _ = true

abbrev pub is_narrow : Val → Bool
is_narrow = fold-Val Bool narrow_step
