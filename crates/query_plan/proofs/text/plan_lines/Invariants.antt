use Rattle.std.proofs.Common.{◌≡◌, map, take, get_or}
use Rattle.query_plan.specs.PlanText.{node_text}
use Rattle.query_plan.proofs.text.plan_lines.Given as goal

abbrev pub invariant-loop-node : goal.invariant-loop-node
invariant-loop-node l = l.lines ≡ map (node_text (λ i. get_or l.widths i 0)) (take l.node-index l.nodes)
