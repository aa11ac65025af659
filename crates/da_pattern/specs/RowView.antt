-- The row so far, as code keeps it.
use Rattle.std.specs.Prelude.{◌≡◌, ℕ, ◌+◌, ◌++◌, length, map, slice_get, Some, Result, Ok, Err}
use denote.Bor.{Bor}
use Rattle.da_values.specs.declared.value.Value.{Value}
use Rattle.da_values.specs.Value.{val_of, vals}
use Rattle.da_lang.specs.Matching.{Row}
use Rattle.da_pattern.specs.declared.row.RowSoFar.{RowSoFar}
use Rattle.da_pattern.specs.declared.row.RowSoFar.TheFolds.{fold-RowSoFar}
use Rattle.da_pattern.specs.declared.row.RowSoFar.TheOpen.{RowSoFar-F, Lent, Behind}
use Rattle.da_pattern.specs.Taken.{taken, taken_parts}

-- the row that is lent, and what the parts before the place take
abbrev pub row_step : RowSoFar-F Row → Row
row_step (Lent row) = row.now
row_step (Behind before parts values) = before.now ++ taken_parts (map taken parts.now) (vals values.now)

abbrev pub row_of : RowSoFar → Row
row_of = fold-RowSoFar Row row_step

-- the value at a place of a row, or by how many places it lies after the row
abbrev pub Finds : Row → ℕ → Result (Bor Value) ℕ → Type 0
Finds row at (Ok v) = slice_get row at ≡ Some (val_of v.now)
Finds row at (Err left) = at ≡ length row + left
