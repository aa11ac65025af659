use Rattle.std.proofs.Common.{◌≡◌, ◌++◌, codes, map, take, flat_map}
use Rattle.query_plan.specs.PlanText.{term_text}
use Rattle.query_plan.proofs.terms.+terms.Given as goal

abbrev pub invariant-put_terms-loop-term : goal.invariant-put_terms-loop-term
invariant-put_terms-loop-term l = l.out ≡ l.initial.out ++ flat_map (λ u. codes ", " ++ u) (map term_text (take l.term-index l.rest))
