-- So much is known, from the last action on.
use Rattle.trace_join.proofs.RepeatLaws.{KnownFrom}
use Rattle.trace_join.proofs.repeats.repeats.Given as goal

abbrev pub invariant-loop-place : goal.invariant-loop-place
invariant-loop-place l = KnownFrom l.trace l.place l.repeats l.later

abbrev pub decreases-loop-place : goal.decreases-loop-place
decreases-loop-place l = l.place
