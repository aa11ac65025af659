use Rattle.std.proofs.Common.{◌≡◌, map, take}
use Rattle.query_plan.specs.Plans.{known, rename_pattern}
use Rattle.quant_norm.proofs.rename.+patterns.Given as goal

abbrev pub invariant-renamed_patterns-loop-pattern : goal.invariant-renamed_patterns-loop-pattern
invariant-renamed_patterns-loop-pattern l = l.renamed ≡ map (rename_pattern (known l.at.vars)) (take l.pattern-index l.patterns)
