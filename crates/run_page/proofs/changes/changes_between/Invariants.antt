use Rattle.std.proofs.Common.{◌≡◌, ◌++◌, drop}
use Rattle.run_page.specs.Cells.{changes_from}
use Rattle.run_page.proofs.changes.changes_between.Given as goal

abbrev pub invariant-loop-cells : goal.invariant-loop-cells
invariant-loop-cells l = changes_from 1 l.earlier l.later ≡ l.found ++ changes_from l.p l.before (drop l.cells-index l.later)
