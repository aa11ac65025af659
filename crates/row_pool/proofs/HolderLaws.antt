-- For a caller whose list has all ids that are held outside.
use Rattle.std.specs.Prelude.{◌≡◌, ℕ, ◌<◌, ◌^◌, length, List, [], ◌∷◌, ◌++◌, Some, is_some, IsSome, remove, slice_get, refl}
use Rattle.std.proofs.Common.{ap, arith}
use Rattle.row_pool.specs.Cells.{Cells, cell_at, value_at, outside}
use Rattle.row_pool.specs.Pool.{Holds, HoldsAll, IsUnchanged, Trades}
use Rattle.row_pool.proofs.CountLaws.{count_append, count_at, count_most, count_remove}
use Rattle.row_pool.proofs.UseLaws.{named_by}

pub all_none : HoldsAll [] []
all_none = record { all = λ k. refl }

-- an id of the list names a value, which can have more holders, and can be given back
module _ (a : Cells) (mine : List ℕ) (holds : HoldsAll a mine) where
  pub used_at : (i k : ℕ) → slice_get mine i ≡ Some k → IsSome (value_at a k)
  used_at i k at =
      let (x, is) = named_by a k (cell_at a k) refl (omega (arith, holds.all k, count_at mine i k at)) in
      ap is_some is

  pub room_for : length mine < 2 ^ 64 → (k : ℕ) → outside a k < 2 ^ 126
  room_for short k = omega (arith, holds.all k, count_most k mine, short)

  pub holds_at : (i k : ℕ) → slice_get mine i ≡ Some k → Holds a (k ∷ [])
  holds_at i k at = record { held = λ j. omega (arith, holds.all j, count_remove mine i k at j) }

pub holds_last : (a : Cells) (mine : List ℕ) (k : ℕ) → HoldsAll a (mine ++ k ∷ []) → Holds a (k ∷ [])
holds_last a mine k holds = record { held = λ j. omega (arith, holds.all j, count_append j mine (k ∷ [])) }

-- an id comes to the end of the list, or leaves it, or nothing changes
module _ (a b : Cells) (mine : List ℕ) where
  pub all_with : (k : ℕ) → HoldsAll a mine → Trades a [] b (k ∷ []) → HoldsAll b (mine ++ k ∷ [])
  all_with k holds trades = record { all = λ j. omega (arith, holds.all j, trades.balance j, count_append j mine (k ∷ [])) }

  pub all_but_last : (k : ℕ) → HoldsAll a (mine ++ k ∷ []) → Trades a (k ∷ []) b [] → HoldsAll b mine
  all_but_last k holds trades = record { all = λ j. omega (arith, holds.all j, trades.balance j, count_append j mine (k ∷ [])) }

  pub all_without : (i k : ℕ) → slice_get mine i ≡ Some k → HoldsAll a mine → Trades a (k ∷ []) b [] → HoldsAll b (remove mine i)
  all_without i k at holds trades = record { all = λ j. omega (arith, holds.all j, trades.balance j, count_remove mine i k at j) }

  pub all_same : HoldsAll a mine → IsUnchanged a b → HoldsAll b mine
  all_same holds same = record { all = λ j. omega (arith, holds.all j, same.holders j) }
