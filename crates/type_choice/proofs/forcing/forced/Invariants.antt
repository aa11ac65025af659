use Rattle.type_choice.specs.Marks.{AreDone}
use Rattle.type_choice.proofs.forcing.forced.Given as goal

abbrev pub invariant-loop-place : goal.invariant-loop-place
invariant-loop-place l = AreDone l.forms l.adds l.receives l.marks l.place
