use Rattle.std.proofs.Common.{◌-◌, length}
use Rattle.type_table.specs.Settling.{marked}
use Rattle.type_choice.specs.Marks.{Forcing}
use Rattle.type_choice.proofs.forcing.force_all.Given as goal

abbrev pub invariant-loop-place : goal.invariant-loop-place
invariant-loop-place l = Forcing l.initial.forms l.adds l.receives l.forms l.marks

abbrev pub decreases-loop-place : goal.decreases-loop-place
decreases-loop-place l = length l.receives - marked l.marks
