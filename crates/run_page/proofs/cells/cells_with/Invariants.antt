use Rattle.da_system.specs.State.{Whichever, program_of}
use Rattle.run_page.specs.RunRows.{names_at}
use Rattle.run_page.proofs.CellLemmas.{CellsUpTo}
use Rattle.run_page.proofs.cells.cells_with.Given as goal

abbrev pub invariant-loop-place : goal.invariant-loop-place
invariant-loop-place l = Whichever l.system (λ s. CellsUpTo (program_of l.system) (names_at l.names) s l.place l.lines l.cells)
