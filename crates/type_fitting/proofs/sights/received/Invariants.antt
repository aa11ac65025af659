use Rattle.std.proofs.Common.{◌≡◌, ◌++◌, drop}
use Rattle.type_fitting.specs.Sights.{receives, numbers_where}
use Rattle.type_fitting.proofs.sights.received.Given as goal

abbrev pub invariant-loop-note : goal.invariant-loop-note
invariant-loop-note l = l.numbers ++ numbers_where receives (drop l.note-index l.notes) ≡ numbers_where receives l.notes
