use Rattle.std.proofs.Common.{◌≡◌, ◌++◌, take, flat_map}
use Rattle.query_plan.specs.PlanText.{signed_text}
use Rattle.query_plan.proofs.conditions.+operands.Given as goal

abbrev pub invariant-put_more-loop-signed : goal.invariant-put_more-loop-signed
invariant-put_more-loop-signed l = l.out ≡ l.initial.out ++ flat_map signed_text (take l.signed-index l.more)
