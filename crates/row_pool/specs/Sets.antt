-- A set whose cell changes: an element comes in or leaves, with its id.
use Rattle.std.specs.Prelude.{◌≡◌, ℕ, ◌<◌, ◌^◌, Bool, true, false, List, [], ◌∷◌, insert, length, remove, slice_get, Some}
use Rattle.da_values.specs.Order.{val_cmp}
use Rattle.da_values.specs.Places.{IsAt, IsBetween}
use Rattle.da_values.specs.Sets.{set_insert, set_remove}
use Rattle.da_values.specs.Value.{val_of}
use Rattle.da_values.specs.Views.{elements_of}
use Rattle.da_values.specs.declared.val.Val.{Val, out-Val}
use Rattle.da_values.specs.declared.val.Val.TheOpen.{Val-F, Set}
use Rattle.da_values.specs.declared.val.Val.TheVariants as val
use Rattle.row_pool.specs.declared.cell.Cell.{Cell}
use Rattle.row_pool.specs.Cells.{Becomes, Cells, holders_at, value_at}
use Rattle.row_pool.specs.Index.{Comes, Goes}
use Rattle.row_pool.specs.Marks.{IsFree, mark}
use Rattle.row_pool.specs.Pool.{Holds, val_at}

abbrev pub is_set_in : {A : Type 0} → Val-F A → Bool
is_set_in (Set elements) = true
is_set_in _ = false

abbrev pub is_set : Val → Bool
is_set x = is_set_in (out-Val x)

-- The set that an id names, with an element or without it. Anything but a set counts as the empty one.
abbrev pub set_with : Cells → ℕ → Val → Val
set_with s id x = val.Set (set_insert val_cmp (elements_of (val_at s id)) x)

abbrev pub set_without : Cells → ℕ → Val → Val
set_without s id x = val.Set (set_remove val_cmp (elements_of (val_at s id)) x)

-- One alone holds the set of an id, and an element belongs at a place of it, whose id is held for it. No value has the number
-- that the set will have.
pub record CanGrow (s : Cells) (id part at : ℕ) (x : Val) (n : ℕ) : Type 0 where
  pub held : Holds s (id ∷ part ∷ [])
  pub between : IsBetween val_cmp (elements_of (val_at s id)) x at
  pub named : value_at s part ≡ Some x
  pub one : holders_at s id ≡ 1
  pub set : is_set (val_at s id) ≡ true
  pub free : IsFree s n
  pub number : n ≡ mark (set_with s id x)

-- The same of an element that is at a place of the set.
pub record CanShrink (s : Cells) (id at : ℕ) (x : Val) (n : ℕ) : Type 0 where
  pub held : Holds s (id ∷ [])
  pub place : IsAt val_cmp (elements_of (val_at s id)) x at
  pub one : holders_at s id ≡ 1
  pub free : IsFree s n
  pub number : n ≡ mark (set_without s id x)

-- Cell d is cell c with element x at a place of its set, whose id is `part`, and with this number.
pub record Grows (c d : Cell) (at : ℕ) (x : Val) (part n : ℕ) : Type 0 where
  pub value : val_of d.value ≡ val.Set (set_insert val_cmp (elements_of (val_of c.value)) x)
  pub parts : d.parts ≡ insert c.parts at part
  pub few : length d.parts < 2 ^ 62
  pub holders : d.holders ≡ c.holders
  pub number : d.mark ≡ n

-- Cell d is cell c without the element x at a place of its set, whose id was `part`, and with this number.
pub record Shrinks (c d : Cell) (at : ℕ) (x : Val) (n part : ℕ) : Type 0 where
  pub value : val_of d.value ≡ val.Set (set_remove val_cmp (elements_of (val_of c.value)) x)
  pub there : slice_get c.parts at ≡ Some part
  pub parts : d.parts ≡ remove c.parts at
  pub holders : d.holders ≡ c.holders
  pub number : d.mark ≡ n

-- The cell under an id, which had this number, has an element more.
pub record PutsIn (s t : Cells) (key : ℕ) (c : Cell) (at : ℕ) (x : Val) (part n was : ℕ) : Type 0 where
  pub cell : Cell
  pub becomes : Becomes s t key (Some cell)
  pub grows : Grows c cell at x part n
  pub old : was ≡ c.mark

-- It has an element fewer, whose id is told.
pub record TakesOut (s t : Cells) (key : ℕ) (c : Cell) (at : ℕ) (x : Val) (n was part : ℕ) : Type 0 where
  pub cell : Cell
  pub becomes : Becomes s t key (Some cell)
  pub shrinks : Shrinks c cell at x n part
  pub old : was ≡ c.mark

-- An id comes under one number, and goes from under another one.
pub record Moves (old new : ℕ → List ℕ) (from to key : ℕ) : Type 0 where
  pub between : ℕ → List ℕ
  pub comes : Comes old between to key
  pub goes : Goes between new from key

-- The cell under an id has an element more, and the id is under another number.
pub record GrowsTo (old new : ℕ → List ℕ) (s t : Cells) (key : ℕ) (c : Cell) (at : ℕ) (x : Val) (part n : ℕ) : Type 0 where
  pub cell : Cell
  pub becomes : Becomes s t key (Some cell)
  pub grows : Grows c cell at x part n
  pub moves : Moves old new c.mark n key

-- The cell under an id has an element fewer, whose id is told, and the id is under another number.
pub record ShrinksTo (old new : ℕ → List ℕ) (s t : Cells) (key : ℕ) (c : Cell) (at : ℕ) (x : Val) (n part : ℕ) : Type 0 where
  pub cell : Cell
  pub becomes : Becomes s t key (Some cell)
  pub shrinks : Shrinks c cell at x n part
  pub moves : Moves old new c.mark n key
