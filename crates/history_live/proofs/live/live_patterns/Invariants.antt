use Rattle.std.proofs.Common.{◌≡◌, take}
use Rattle.query_plan.specs.PlanLive.{plan_live}
use Rattle.history_live.proofs.live.live_patterns.Given as goal

abbrev pub invariant-loop-node : goal.invariant-loop-node
invariant-loop-node l = l.patterns ≡ plan_live (take l.node-index l.nodes)
