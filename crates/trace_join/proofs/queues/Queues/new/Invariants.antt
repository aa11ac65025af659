-- So many processes have their channels.
use Rattle.std.proofs.Common.{◌≡◌, [], replicate}
use Rattle.trace_join.proofs.queues.Queues.new.Given as goal

abbrev pub invariant-loop-place : goal.invariant-loop-place
invariant-loop-place l = l.rows.items ≡ replicate l._place (replicate l.count [])
