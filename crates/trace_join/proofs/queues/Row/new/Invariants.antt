-- So many channels are there.
use Rattle.std.proofs.Common.{◌≡◌, [], replicate}
use Rattle.trace_join.proofs.queues.Row.new.Given as goal

abbrev pub invariant-loop-place : goal.invariant-loop-place
invariant-loop-place l = l.queues.items ≡ replicate l._place []
