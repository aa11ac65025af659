use Rattle.da_pattern.proofs.TakenAt.{NotYet}
use Rattle.da_pattern.proofs.taken.+taken.Given as goal

abbrev pub invariant-taken_of_parts-loop-place : goal.invariant-taken_of_parts-loop-place
invariant-taken_of_parts-loop-place l = NotYet l.parts l.values l.at l.left l.place
