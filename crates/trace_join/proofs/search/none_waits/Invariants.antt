-- So many are there.
use Rattle.std.proofs.Common.{◌≡◌, false, replicate}
use Rattle.trace_join.proofs.search.none_waits.Given as goal

abbrev pub invariant-loop-place : goal.invariant-loop-place
invariant-loop-place l = l.waits ≡ replicate l._place false
