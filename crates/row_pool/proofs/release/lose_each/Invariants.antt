use Rattle.std.proofs.Common.{◌≡◌, ℕ, List, Option, drop}
use Rattle.da_values.specs.declared.val.Val.{Val}
use Rattle.row_pool.specs.Index.{AreMarked}
use Rattle.row_pool.specs.Release.{Releases}
use Rattle.slab.specs.Slab.{slab_len}
use Rattle.row_pool.proofs.release.lose_each.Given as goal

abbrev pub invariant-loop-key : goal.invariant-loop-key
invariant-loop-key l =
    ((find : Val → Option ℕ) → Releases find l.fn.cells.slots l.fn.first l.keys find l.cells.slots l.next (drop l.key-index l.keys)) × (slab_len l.cells ≡ slab_len l.fn.cells)
    × ((numbers : ℕ → List ℕ) → AreMarked numbers l.fn.cells.slots → AreMarked numbers l.cells.slots)
