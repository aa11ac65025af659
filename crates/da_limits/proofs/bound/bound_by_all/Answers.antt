use Rattle.std.proofs.Common.{arith}
use Rattle.da_limits.proofs.BoundRules.{gen_step}
use Rattle.da_limits.proofs.bound.bound_by_all.Goals as goal

pub loop-g-preserved : goal.loop-g-preserved
loop-g-preserved c = omega (arith, c.saturating_add-all.ensures, c.loop-g.invariant, c.bound_by_gen.ensures, gen_step _ _ _ c.loop-g-test.true c.g-item.is)
