use Rattle.std.proofs.Common.{◌≡◌, ◌++◌, map, take}
use Rattle.run_page.specs.Cells.{answer_cell}
use Rattle.run_page.proofs.cells.add_told.Given as goal

abbrev pub invariant-loop-answer : goal.invariant-loop-answer
invariant-loop-answer l = l.cells ≡ l.fn.cells ++ map answer_cell (take l.answer-index l.answers)
