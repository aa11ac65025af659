use Rattle.std.proofs.Common.{◌≡◌, ◌++◌, drop}
use Rattle.type_fitting.specs.Sights.{adds, numbers_where}
use Rattle.type_fitting.proofs.sights.added.Given as goal

abbrev pub invariant-loop-note : goal.invariant-loop-note
invariant-loop-note l = l.numbers ++ numbers_where adds (drop l.note-index l.notes) ≡ numbers_where adds l.notes
