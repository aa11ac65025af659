-- Where the index has the ids of values: under the numbers of the values.
use Rattle.std.specs.Prelude.{◌≡◌, ℕ, ◌+◌, List, [], ◌∷◌, nat_eq, Option, Some, None}
use Rattle.da_values.specs.Sets.{Has}
use Rattle.da_values.specs.Value.{val_of}
use Rattle.da_values.specs.declared.val.Val.{Val}
use Rattle.indexmap.specs.IndexMap.{IndexMap, get}
use Rattle.row_pool.specs.declared.cell.Cell.{Cell}
use Rattle.row_pool.specs.Cells.{Cells, IsPool, cell_at, count}
use Rattle.row_pool.specs.Marks.{mark}

abbrev pub or_none : Option (List ℕ) → List ℕ
or_none None = []
or_none (Some keys) = keys

-- the ids under a number
abbrev pub under : {S : Type 0} → IndexMap ℕ (List ℕ) S → ℕ → List ℕ
under index n = or_none (get nat_eq index n)

-- Each value stands once under its number, and nothing else stands there.
pub record AreMarked (keys : ℕ → List ℕ) (s : Cells) : Type 0 where
  pub marked : (k : ℕ) (c : Cell) → cell_at s k ≡ Some c → c.mark ≡ mark (val_of c.value)
  pub there : (k : ℕ) (c : Cell) → cell_at s k ≡ Some c → count k (keys c.mark) ≡ 1
  pub only : (n k : ℕ) → Has (keys n) k → (c : Cell) × (cell_at s k ≡ Some c) × (c.mark ≡ n)

-- Under this number there is one id more, and under the others there are those that there were.
pub record Comes (old new : ℕ → List ℕ) (n key : ℕ) : Type 0 where
  pub here : (k : ℕ) → count k (new n) ≡ count k (old n) + count k (key ∷ [])
  pub others : (m : ℕ) → (m ≡ n → ⊥) → new m ≡ old m

-- The same of one id fewer.
pub record Goes (old new : ℕ → List ℕ) (n key : ℕ) : Type 0 where
  pub here : (k : ℕ) → count k (old n) ≡ count k (new n) + count k (key ∷ [])
  pub others : (m : ℕ) → (m ≡ n → ⊥) → new m ≡ old m

-- Under each number there are the same ids, in whatever order.
abbrev pub SameCounts : (ℕ → List ℕ) → (ℕ → List ℕ) → Type 0
SameCounts old new = (n k : ℕ) → count k (new n) ≡ count k (old n)

-- What holds of a pool between calls. Where a value is found is told by its number, which `find` leaves open.
pub record IsIndexed (keys : ℕ → List ℕ) (s : Cells) : Type 0 where
  pub find : Val → Option ℕ
  pub pool : IsPool find s
  pub marks : AreMarked keys s
