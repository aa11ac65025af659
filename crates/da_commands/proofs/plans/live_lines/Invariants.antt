use Rattle.std.proofs.Common.{◌≡◌, map, take}
use Rattle.query_plan.specs.PlanText.{live_text}
use Rattle.da_commands.proofs.plans.live_lines.Given as goal

abbrev pub invariant-loop-pattern : goal.invariant-loop-pattern
invariant-loop-pattern l = l.lines ≡ map live_text (take l.pattern-index l.pattern-items)
