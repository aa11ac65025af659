-- Those before wait.
use Rattle.trace_join.proofs.LoopLaws.{AllWaitBefore}
use Rattle.trace_join.proofs.search.Search.one_goes.Given as goal

abbrev pub invariant-loop-place : goal.invariant-loop-place
invariant-loop-place l = AllWaitBefore l.fn.self l.self l.place
