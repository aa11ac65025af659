use Rattle.std.proofs.Common.{◌≡◌, ◌++◌, drop}
use Rattle.run_page.specs.Cells.{changes_of}
use Rattle.run_page.proofs.changes.add_changes.Given as goal

abbrev pub invariant-loop-cell : goal.invariant-loop-cell
invariant-loop-cell l = l.fn.found ++ changes_of l.p 0 l.earlier l.later ≡ l.found ++ changes_of l.p l.place l.before (drop l.cell-index l.later)
