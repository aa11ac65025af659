use Rattle.std.proofs.Common.{◌≤◌, drop, length}
use Rattle.trace_page.specs.Sheets.{HasEnds, actions_at}
use Rattle.trace_page.proofs.sheet.ends_of.Given as goal

abbrev pub invariant-loop-place : goal.invariant-loop-place
invariant-loop-place l = record {
  has : HasEnds l.ends (actions_at (drop l.place l.spots));
  within : l.place ≤ length l.spots;
}

abbrev pub decreases-loop-place : goal.decreases-loop-place
decreases-loop-place l = l.place
