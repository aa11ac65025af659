use Rattle.std.proofs.Common.{◌≡◌, [], replicate}
use Rattle.da_calls.proofs.cycles.no_steps.Given as goal

abbrev pub invariant-loop-node : goal.invariant-loop-node
invariant-loop-node l = l.graph.items ≡ replicate l._node []
