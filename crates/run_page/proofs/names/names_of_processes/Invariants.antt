use Rattle.std.proofs.Common.{◌≡◌, map, take}
use Rattle.run_page.specs.RunRows.{names_for}
use Rattle.run_page.proofs.names.names_of_processes.Given as goal

abbrev pub invariant-loop-decl : goal.invariant-loop-decl
invariant-loop-decl l = l.names ≡ map (names_for l.tree) (take l.decl-index l.decl-items)
