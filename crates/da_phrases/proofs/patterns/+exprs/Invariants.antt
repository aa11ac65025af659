use Rattle.std.proofs.Common.{◌-◌}
use Rattle.da_phrases.proofs.patterns.+exprs.Given as goal

abbrev pub decreases-expr_at : goal.decreases-expr_at
decreases-expr_at l = 32 - l.depth

abbrev pub decreases-pattern_at : goal.decreases-pattern_at
decreases-pattern_at l = 32 - l.depth
