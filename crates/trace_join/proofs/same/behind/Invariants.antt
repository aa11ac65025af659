-- What is left of both lists decides.
use Rattle.std.proofs.Common.{length}
use Rattle.trace_join.proofs.SameLaws.{Compared}
use Rattle.trace_join.proofs.same.behind.Given as goal

abbrev pub invariant-loop-left : goal.invariant-loop-left
invariant-loop-left l = Compared l.fn.trace l.fn.told l.rest l.left

abbrev pub decreases-loop-left : goal.decreases-loop-left
decreases-loop-left l = length l.left
