use Rattle.std.proofs.Common.{take}
use Rattle.da_calls.specs.CallCycles.{AddsSteps}
use Rattle.da_calls.proofs.cycles.add_steps.Given as goal

abbrev pub invariant-loop-node : goal.invariant-loop-node
invariant-loop-node l = AddsSteps l.to (take l.node-index l.nodes) l.initial.graph l.graph
