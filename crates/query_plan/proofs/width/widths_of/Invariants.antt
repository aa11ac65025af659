use Rattle.std.proofs.Common.{◌≡◌, [], take}
use Rattle.query_plan.specs.Nodes.{in_order, width_step}
use Rattle.query_plan.proofs.width.widths_of.Given as goal

abbrev pub invariant-loop-node : goal.invariant-loop-node
invariant-loop-node l = l.widths ≡ in_order 0 width_step [] (take l.node-index l.nodes)
