use Rattle.std.proofs.Common.{◌≡◌, reverse}
use Rattle.da_calls.specs.CallTasks.{entering}
use Rattle.da_calls.proofs.order.all_waiting.Given as goal

abbrev pub invariant-loop-node : goal.invariant-loop-node
invariant-loop-node l = reverse l.work ≡ entering l.node
