use Rattle.std.proofs.Common.{◌≡◌, map, take}
use Rattle.query_plan.specs.Plans.{known, rename}
use Rattle.quant_norm.proofs.rename.+terms.Given as goal

abbrev pub invariant-renamed_terms-loop-term : goal.invariant-renamed_terms-loop-term
invariant-renamed_terms-loop-term l = l.renamed ≡ map (rename (known l.at.vars)) (take l.term-index l.terms)
