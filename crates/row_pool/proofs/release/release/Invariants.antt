use Rattle.std.proofs.Common.{ℕ, Option, []}
use Rattle.da_values.specs.declared.val.Val.{Val}
use Rattle.row_pool.specs.Index.{AreMarked, under}
use Rattle.row_pool.specs.Release.{Releases}
use Rattle.slab.specs.Slab.{slab_len}
use Rattle.row_pool.proofs.release.release.Given as goal

abbrev pub invariant-loop-next : goal.invariant-loop-next
invariant-loop-next l =
    ((find : Val → Option ℕ) → (after : Val → Option ℕ) × Releases find l.fn.cells.slots l.fn.first [] after l.cells.slots l.next []) × AreMarked (under l.index) l.cells.slots

abbrev pub decreases-loop-next : goal.decreases-loop-next
decreases-loop-next l = slab_len l.cells
