use Rattle.std.proofs.Common.{◌≡◌, [], replicate}
use Rattle.da_system.proofs.channels.Channels.new.Given as goal

abbrev pub invariant-loop-place : goal.invariant-loop-place
invariant-loop-place l = l.queues.items ≡ replicate l._place []
