use Rattle.da_calls.proofs.CallCycles.{Turning}
use Rattle.da_calls.proofs.cycles.turned.Given as goal

abbrev pub invariant-loop-node : goal.invariant-loop-node
invariant-loop-node l = Turning l.graph l.node l.back.items
