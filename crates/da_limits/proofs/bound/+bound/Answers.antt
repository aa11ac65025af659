use Rattle.std.proofs.Common.{arith}
use Rattle.da_limits.proofs.BoundRules.{pattern_step}
use Rattle.da_limits.proofs.bound.+bound.Goals as goal

pub bound_in_all-loop-pattern-preserved : goal.bound_in_all-loop-pattern-preserved
bound_in_all-loop-pattern-preserved t c =
    omega (arith, c.saturating_add-all.ensures, c.loop-pattern.invariant, c.bound_in.ensures, pattern_step _ _ _ c.loop-pattern-test.true c.pattern-item.is)
