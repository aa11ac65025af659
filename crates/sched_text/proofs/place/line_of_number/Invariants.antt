use Rattle.std.proofs.Common.{◌≡◌, ◌≤◌, length}
use Rattle.std.specs.List.{slice_get}
use Rattle.std.specs.Prelude.{◌-◌}
use Rattle.std.specs.Str.Lines.{lines}
use Rattle.sched_text.proofs.place.line_of_number.Given as goal

abbrev pub invariant-lines : goal.invariant-lines
invariant-lines l = record {
  some : 1 ≤ l.number;
  left : slice_get (lines l.text) (l.number - 1) ≡ slice_get (lines l.rest) l.before;
}

abbrev pub decreases-lines : goal.decreases-lines
decreases-lines l = length l.rest
