-- What a pool has under each id: a value, how many hold it, and the ids of its parts.
use Rattle.std.specs.Prelude.{◌≡◌, ℕ, ◌+◌, ◌-◌, ◌<◌, ◌^◌, ◌==◌, ◌++◌, length, List, [], ◌∷◌, map, Option, Some, None, slice_index_or, if◌then◌else◌, count_by, is_some}
use Rattle.da_values.specs.Value.{val_of}
use Rattle.da_values.specs.Views.{parts_of, elements_of}
use Rattle.da_values.specs.declared.val.Val.{Val}
use Rattle.row_pool.specs.declared.cell.Cell.{Cell}

-- by id, from 0 on; `None` where an id names nothing
abbrev pub Cells : Type 0
Cells = List (Option Cell)

abbrev pub cell_at : Cells → ℕ → Option Cell
cell_at s k = slice_index_or s k None

abbrev pub value_in : Option Cell → Option Val
value_in None = None
value_in (Some c) = Some (val_of c.value)

abbrev pub holders_in : Option Cell → ℕ
holders_in None = 0
holders_in (Some c) = c.holders

abbrev pub parts_in : Option Cell → List ℕ
parts_in None = []
parts_in (Some c) = c.parts

-- the value that an id names
abbrev pub value_at : Cells → ℕ → Option Val
value_at s k = value_in (cell_at s k)

-- how many hold it
abbrev pub holders_at : Cells → ℕ → ℕ
holders_at s k = holders_in (cell_at s k)

-- the ids of its parts
abbrev pub parts_at : Cells → ℕ → List ℕ
parts_at s k = parts_in (cell_at s k)

-- how many values are in the pool
abbrev pub live_in : Cells → ℕ
live_in s = count_by is_some s

-- how often an id stands in a list
abbrev pub count : ℕ → List ℕ → ℕ
count k [] = 0
count k (i ∷ is) = (if i == k then 1 else 0) + count k is

-- how many of its holders are tuples and sets of the pool, once for each place where it is a part
abbrev pub inside : Cells → ℕ → ℕ
inside [] k = 0
inside (c ∷ cs) k = count k (parts_in c) + inside cs k

-- how many of its holders are others
abbrev pub outside : Cells → ℕ → ℕ
outside s k = holders_at s k - inside s k

-- the parts of a tuple, or the elements of a set; none of any other value
abbrev pub children : Val → List Val
children v = parts_of v ++ elements_of v

-- one cell is now this, and all others are as they were
pub record Becomes (old new : Cells) (key : ℕ) (slot : Option Cell) : Type 0 where
  pub changed : cell_at new key ≡ slot
  pub others : (k : ℕ) → (k ≡ key → ⊥) → cell_at new k ≡ cell_at old k

-- one value is now found here, and all others are found as they were
pub record Finds (old new : Val → Option ℕ) (x : Val) (slot : Option ℕ) : Type 0 where
  pub changed : new x ≡ slot
  pub others : (y : Val) → (y ≡ x → ⊥) → new y ≡ old y

-- a value is found where it is, and nothing else is found; the parts of a cell are the ids of its value's parts, fewer
-- than any list in memory can have
pub record Agrees (find : Val → Option ℕ) (s : Cells) : Type 0 where
  pub indexed : (k : ℕ) (c : Cell) → cell_at s k ≡ Some c → find (val_of c.value) ≡ Some k
  pub found : (x : Val) (k : ℕ) → find x ≡ Some k → value_at s k ≡ Some x
  pub whole : (k : ℕ) (c : Cell) → cell_at s k ≡ Some c → map (value_at s) c.parts ≡ map Some (children (val_of c.value))
  pub short : (k : ℕ) (c : Cell) → cell_at s k ≡ Some c → length c.parts < 2 ^ 62

-- the holders of an id are the places where it is a part, and so many others
pub record IsBalanced (s : Cells) (others : ℕ → ℕ) : Type 0 where
  pub counted : (k : ℕ) → holders_at s k ≡ inside s k + others k

-- each value has a holder
pub record AllHeld (s : Cells) : Type 0 where
  pub held : (k : ℕ) (c : Cell) → cell_at s k ≡ Some c → 0 < c.holders

-- what holds of a pool between calls
pub record IsPool (find : Val → Option ℕ) (s : Cells) : Type 0 where
  pub agrees : Agrees find s
  pub balanced : IsBalanced s (outside s)
  pub all_held : AllHeld s
