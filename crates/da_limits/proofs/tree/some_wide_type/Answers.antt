use Rattle.std.proofs.Common.{◌∙◌, sym}
use Rattle.da_limits.proofs.LimitLinesAt.{any_step, any_here, any_end}
use Rattle.da_limits.proofs.tree.some_wide_type.Goals as goal

pub loop-ty-preserved : goal.loop-ty-preserved
loop-ty-preserved c = any_step _ _ _ c.ty-item.result c.loop-ty-test.true c.ty-item.is (sym c.is_wide_type.ensures ∙ c.if-is_wide_type.false) c.loop-ty.invariant

pub returns-then-is_wide_type : goal.returns-then-is_wide_type
returns-then-is_wide_type c = any_here _ _ _ c.ty-item.result c.loop-ty-test.true c.ty-item.is (sym c.is_wide_type.ensures ∙ c.if-is_wide_type.true) c.loop-ty.invariant

pub returns : goal.returns
returns c = any_end _ _ _ c.loop-ty-test.false c.loop-ty.invariant
