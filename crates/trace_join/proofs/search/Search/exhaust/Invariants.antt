-- The search stands somewhere, and fewer steps are left each time.
use Rattle.trace_join.specs.Searching.{IsOf, Ready, pieces_left}
use Rattle.trace_join.proofs.search.Search.exhaust.Given as goal

abbrev pub invariant-steps : goal.invariant-steps
invariant-steps l = Ready l.self × IsOf l.fn.self.compiled.now l.fn.self.traces.now l.self

abbrev pub decreases-steps : goal.decreases-steps
decreases-steps l = pieces_left l.self.tracks
