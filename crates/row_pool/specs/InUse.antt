-- Which values are in a pool: those that someone outside holds, and all that is within them, each under one id.
use Rattle.std.specs.Prelude.{◌≡◌, ℕ, ◌+◌, ◌<◌, List, [], map, Some}
use Rattle.da_values.specs.Order.{val_cmp}
use Rattle.da_values.specs.Sets.{Ascends, Has}
use Rattle.da_values.specs.declared.val.Val.{Val}
use Rattle.row_pool.specs.Cells.{Cells, value_at, holders_at, parts_at, inside, outside, count, children}

-- x is z, or a part of something within z
pub data Within (z : Val) : Val → Type 0 where
  itself : (x : Val) → x ≡ z → Within z x
  inner : (x y : Val) → Has (children y) x → Within z y → Within z x

-- x is within a value that someone outside holds, besides those who hold these ids
pub record IsHeld (s : Cells) (ids : List ℕ) (x : Val) : Type 0 where
  pub key : ℕ
  pub value : Val
  pub there : value_at s key ≡ Some value
  pub held : count key ids < outside s key
  pub within : Within value x

-- the values of the pool are just those that are held
pub record InUse (s : Cells) : Type 0 where
  pub held : (k : ℕ) (x : Val) → value_at s k ≡ Some x → IsHeld s [] x
  pub used : (x : Val) → IsHeld s [] x → (k : ℕ) × (value_at s k ≡ Some x)

-- the set of those that are held
pub record AreHeld (s : Cells) (set : List Val) : Type 0 where
  pub ascends : Ascends val_cmp set
  pub all : (x : Val) → IsHeld s [] x → Has set x
  pub only : (x : Val) → Has set x → IsHeld s [] x

-- a value is there as long as it has a holder, and holds each of its parts where it stands
pub record IsCounted (s : Cells) : Type 0 where
  pub counted : (k : ℕ) → holders_at s k ≡ inside s k + outside s k
  pub held : (k : ℕ) (x : Val) → value_at s k ≡ Some x → 0 < holders_at s k
  pub parts : (k : ℕ) (x : Val) → value_at s k ≡ Some x → map (value_at s) (parts_at s k) ≡ map Some (children x)

-- equal values have one id
pub record IsOne (s : Cells) : Type 0 where
  pub one : (j k : ℕ) (x : Val) → value_at s j ≡ Some x → value_at s k ≡ Some x → j ≡ k
