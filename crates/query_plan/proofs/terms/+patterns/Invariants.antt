use Rattle.std.proofs.Common.{◌≡◌, ◌++◌, take, flat_map}
use Rattle.query_plan.specs.PlanText.{parts_after_all, pattern_texts}
use Rattle.query_plan.proofs.PlanTextAt.{later}
use Rattle.query_plan.proofs.terms.+patterns.Given as goal

abbrev pub invariant-put_patterns-loop-pattern : goal.invariant-put_patterns-loop-pattern
invariant-put_patterns-loop-pattern l =
    (l.out ≡ l.initial.out ++ flat_map later (pattern_texts (take l.pattern-index l.rest) l.initial.behind))
    × (l.behind ≡ parts_after_all (take l.pattern-index l.rest) l.initial.behind)
