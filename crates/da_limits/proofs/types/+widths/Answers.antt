use Rattle.std.proofs.Common.{arith}
use Rattle.da_lang.specs.Written.{type_width}
use Rattle.da_limits.proofs.TypeWidths.{greatest_step}
use Rattle.da_limits.proofs.types.+widths.Goals as goal

pub widest_type-loop-ty-preserved : goal.widest_type-loop-ty-preserved
widest_type-loop-ty-preserved t c =
    omega (arith, c.max-widest.ensures, c.loop-ty.invariant, c.type_width.ensures, greatest_step type_width _ _ _ c.loop-ty-test.true c.ty-item.is)
