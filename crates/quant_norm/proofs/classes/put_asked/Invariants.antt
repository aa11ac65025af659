use Rattle.std.proofs.Common.{◌≡◌, drop}
use Rattle.query_plan.specs.Questions.{with_asked}
use Rattle.quant_norm.proofs.classes.put_asked.Given as goal

abbrev pub invariant-loop-left : goal.invariant-loop-left
invariant-loop-left l = with_asked l.fn.count (drop l.fn.taken l.queries) l.fn.plan ≡ with_asked l.left (drop l.next l.queries) l.plan

abbrev pub decreases-loop-left : goal.decreases-loop-left
decreases-loop-left l = l.left
