use Rattle.type_fitting.proofs.LoopLaws.{SeenFrom}
use Rattle.type_fitting.proofs.sights.are_seen.Given as goal

abbrev pub invariant-loop-note : goal.invariant-loop-note
invariant-loop-note l = SeenFrom l.looks l.notes l.note-index
