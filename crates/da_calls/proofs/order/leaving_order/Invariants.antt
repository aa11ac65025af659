use Rattle.std.proofs.Common.{◌+◌, not, length, reverse}
use Rattle.da_calls.proofs.CallSearch.{left}
use Rattle.da_calls.proofs.CallOrder.{Walk}
use Rattle.da_calls.proofs.order.leaving_order.Given as goal

abbrev pub invariant-loop-task : goal.invariant-loop-task
invariant-loop-task l = Walk l.graph (length l.graph) l.entered.items (reverse l.work) (reverse l.order)

abbrev pub decreases-loop-task : goal.decreases-loop-task
decreases-loop-task l = length l.work + left not l.entered.items l.graph
