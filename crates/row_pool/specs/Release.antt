-- How cells leave: one that lost its last holder stays in its place, and names the next such cell, until it is taken out.
use Rattle.std.specs.Prelude.{◌≡◌, ℕ, ◌+◌, ◌-◌, ◌<◌, List, [], ◌∷◌, Option, Some, None}
use Rattle.da_values.specs.Sets.{Has}
use Rattle.da_values.specs.declared.val.Val.{Val}
use Rattle.row_pool.specs.declared.cell.Cell.{Cell}
use Rattle.row_pool.specs.Cells.{Cells, cell_at, value_at, count, Becomes, Agrees, IsBalanced}

-- the cells that are to leave, from the first on: each has no holder, and names the next
abbrev pub IsChain : Cells → Option ℕ → List ℕ → Type 0
IsChain s first [] = first ≡ None
IsChain s first (k ∷ ks) = (first ≡ Some k) × (Has ks k → ⊥) × ((c : Cell) × (cell_at s k ≡ Some c) × (c.holders ≡ 0) × IsChain s c.next ks)

-- all cells without a holder are in the chain, and besides tuples and sets so many hold each id
pub record IsReleasing (find : Val → Option ℕ) (s : Cells) (owed : ℕ → ℕ) (first : Option ℕ) : Type 0 where
  pub agrees : Agrees find s
  pub balanced : IsBalanced s owed
  pub line : List ℕ
  pub chain : IsChain s first line
  pub only : (k : ℕ) (c : Cell) → cell_at s k ≡ Some c → c.holders ≡ 0 → Has line k

-- what is still owed to someone has its id as before, and no value came
pub record Spares (owed : ℕ → ℕ) (old new : Cells) : Type 0 where
  pub same : (k : ℕ) → 0 < owed k → value_at new k ≡ value_at old k
  pub none_new : (k : ℕ) (x : Val) → value_at new k ≡ Some x → value_at old k ≡ Some x

-- a step of the work: the first ids had to be given back before it, and the second ones still have to be
abbrev pub Releases : (Val → Option ℕ) → Cells → Option ℕ → List ℕ → (Val → Option ℕ) → Cells → Option ℕ → List ℕ → Type 0
Releases find s first ids find' t first' ids' =
    (owed : ℕ → ℕ) → IsReleasing find s (λ k. owed k + count k ids) first → IsReleasing find' t (λ k. owed k + count k ids') first' × Spares owed s t

-- an id lost one holder; where it was the last, its cell was put before those that are to leave
pub record LosesHolder (s : Cells) (first : Option ℕ) (key : ℕ) (t : Cells) (first' : Option ℕ) : Type 0 where
  pub last : (c : Cell) → cell_at s key ≡ Some c → c.holders ≡ 1 → Becomes s t key (Some (record c { holders = 0; next = first })) × (first' ≡ Some key)
  pub more : (c : Cell) → cell_at s key ≡ Some c → 1 < c.holders → Becomes s t key (Some (record c { holders = c.holders - 1 })) × (first' ≡ first)
