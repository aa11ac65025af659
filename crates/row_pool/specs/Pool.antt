-- What contracts say of a call: which holders it took and gave, and what it left as it was.
use Rattle.std.specs.Prelude.{◌≡◌, ℕ, ◌+◌, ◌≤◌, List, [], ◌∷◌, ◌++◌, map, Option, Some, None}
use Rattle.da_values.specs.declared.val.Val.{Val}
use Rattle.da_values.specs.declared.val.Val.TheVariants as val
use Rattle.row_pool.specs.Cells.{Cells, count, outside, value_at}
use Rattle.row_pool.specs.InUse.{IsHeld}

-- the holders outside are at least these
pub record Holds (s : Cells) (ids : List ℕ) : Type 0 where
  pub held : (k : ℕ) → count k ids ≤ outside s k

-- the holders outside are just these
pub record HoldsAll (s : Cells) (ids : List ℕ) : Type 0 where
  pub all : (k : ℕ) → outside s k ≡ count k ids

-- a call took the first ids as holders and gave the second: no other holder came or left, and what another holder holds
-- has its id as before, with all that is within it
pub record Trades (old : Cells) (taken : List ℕ) (new : Cells) (given : List ℕ) : Type 0 where
  pub balance : (k : ℕ) → outside new k + count k taken ≡ outside old k + count k given
  pub kept : (k : ℕ) (x : Val) → IsHeld old taken x → value_at old k ≡ Some x → value_at new k ≡ Some x

-- each id names what it named, and has as many holders outside
pub record IsUnchanged (old new : Cells) : Type 0 where
  pub values : (k : ℕ) → value_at new k ≡ value_at old k
  pub holders : (k : ℕ) → outside new k ≡ outside old k

-- the ids of these values were given
pub record AreGiven (old new : Cells) (xs : List Val) (ids : List ℕ) : Type 0 where
  pub values : map (value_at new) ids ≡ map Some xs
  pub trades : Trades old [] new ids

-- the id of one more value was given, and put at the end
pub record IsGivenNext (old : Cells) (ids : List ℕ) (new : Cells) (longer : List ℕ) (v : Val) : Type 0 where
  pub key : ℕ
  pub value : value_at new key ≡ Some v
  pub grown : longer ≡ ids ++ key ∷ []
  pub trades : Trades old [] new (key ∷ [])

-- what stands for the value of an id that names nothing: no process has this number
abbrev pub no_value : Val
no_value = val.Proc 0

abbrev pub or_no_value : Option Val → Val
or_no_value None = no_value
or_no_value (Some x) = x

-- the value of an id, for any number
abbrev pub val_at : Cells → ℕ → Val
val_at s k = or_no_value (value_at s k)

-- the same for an id that may be missing
abbrev pub part_at : Cells → Option ℕ → Val
part_at s None = no_value
part_at s (Some k) = val_at s k
