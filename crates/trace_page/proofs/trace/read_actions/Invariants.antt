use Rattle.std.proofs.Common.{◌+◌, ◌≤◌, length}
use Rattle.trace_page.proofs.TraceLemmas.{Came}
use Rattle.trace_page.proofs.trace.read_actions.Given as goal

abbrev pub invariant-lines : goal.invariant-lines
invariant-lines l = record {
  came : Came l.text l.rest l.actions l.number;
  few : l.number + length l.rest ≤ length l.text + 1;
}

abbrev pub decreases-lines : goal.decreases-lines
decreases-lines l = length l.rest
