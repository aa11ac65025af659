use Rattle.std.proofs.Common.{◌≡◌, map, take}
use Rattle.query_plan.specs.PlanText.{query_text}
use Rattle.query_plan.proofs.text.query_lines.Given as goal

abbrev pub invariant-loop-query : goal.invariant-loop-query
invariant-loop-query l = l.lines ≡ map query_text (take l.query-index l.fn.p.queries)
