use Rattle.std.proofs.Common.{◌≡◌, ◌+◌, ◌≤◌, length}
use Rattle.std.specs.List.{slice_get}
use Rattle.std.specs.Prelude.{◌-◌}
use Rattle.std.specs.Str.Lines.{lines}
use Rattle.sched_text.specs.Places.{event_lines, events_from}
use Rattle.sched_text.proofs.place.line_of_event.Given as goal

abbrev pub invariant-lines : goal.invariant-lines
invariant-lines l = record {
  some : 1 ≤ l.event;
  left : slice_get (event_lines l.schedule) (l.event - 1) ≡ slice_get (events_from l.number (lines l.rest)) l.before;
  few : l.number + length l.rest ≤ length l.schedule + 1;
}

abbrev pub decreases-lines : goal.decreases-lines
decreases-lines l = length l.rest
