use Rattle.std.proofs.Common.{◌≡◌, ◌++◌, drop}
use Rattle.da_values.specs.Value.{vals}
use Rattle.run_page.specs.Cells.{slot_cells}
use Rattle.run_page.proofs.cells.add_values.Given as goal

abbrev pub invariant-loop-value : goal.invariant-loop-value
invariant-loop-value l = l.fn.cells ++ slot_cells l.names 1 (vals l.values) ≡ l.cells ++ slot_cells l.left l.number (vals (drop l.value-index l.values))
