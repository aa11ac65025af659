use Rattle.std.specs.Prelude.{Some}
use Rattle.std.proofs.Common.{◌≡◌, ℕ, drop}
use Rattle.da_values.specs.Sets.{Has}
use Rattle.da_values.specs.Value.{val_of}
use Rattle.row_pool.specs.Cells.{value_at}
use Rattle.row_pool.proofs.index.key_among.Given as goal

abbrev pub invariant-loop-key : goal.invariant-loop-key
invariant-loop-key l = (k : ℕ) → Has l.keys k → value_at l.cells.slots k ≡ Some (val_of l.v) → Has (drop l.key-index l.keys) k
