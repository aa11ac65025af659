-- The numbers by which values are looked up. Equal values have one number; others mostly have others.
use Rattle.std.specs.Prelude.{◌≡◌, ℕ, ◌+◌, ◌%◌, ◌^◌, List, [], ◌∷◌, Some}
use Rattle.std.specs.List.{fold}
use Rattle.std.specs.Hash.FoldHasher.{finish, initial, write}
use Rattle.da_values.specs.Keys.{val_writes}
use Rattle.da_values.specs.declared.val.Val.{Val, out-Val}
use Rattle.da_values.specs.declared.val.Val.TheOpen.{Val-F, Set}
use Rattle.row_pool.specs.Cells.{Cells, value_at}

-- what a hasher makes of a value
unfoldable pub hashed : Val → ℕ
hashed v = finish (fold write initial (val_writes v))

-- what it makes of each of some values, added up
abbrev pub hash_sum : List Val → ℕ
hash_sum [] = 0
hash_sum (x ∷ xs) = hashed x + hash_sum xs

-- The number of a set: that of the set with an element more or fewer follows from it.
abbrev pub mark_of_set : List Val → ℕ
mark_of_set xs = (hash_sum xs + 1) % 2 ^ 64

abbrev pub mark_in : Val → Val-F Val → ℕ
mark_in v (Set elements) = mark_of_set elements
mark_in v _ = hashed v

-- the number of a value
abbrev pub mark : Val → ℕ
mark v = mark_in v (out-Val v)

-- no value has this number
abbrev pub IsFree : Cells → ℕ → Type 0
IsFree s n = (k : ℕ) (x : Val) → value_at s k ≡ Some x → mark x ≡ n → ⊥
