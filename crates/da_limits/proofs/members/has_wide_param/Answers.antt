use Rattle.std.proofs.Common.{◌∙◌, sym}
use Rattle.da_lang.specs.declared.tree.Param.{Param}
use Rattle.da_lang.specs.Limits.{wide}
use Rattle.da_lang.specs.Written.{type_width}
use Rattle.da_limits.proofs.LimitLinesAt.{any_step, any_here, any_end}
use Rattle.da_limits.proofs.members.has_wide_param.Goals as goal

pub loop-param-preserved : goal.loop-param-preserved
loop-param-preserved c = any_step (λ (p : Param). wide (type_width p.ty)) _ _ c.param-item.result c.loop-param-test.true c.param-item.is (sym c.is_wide_type.ensures ∙ c.if-is_wide_type.false) c.loop-param.invariant

pub returns-then-is_wide_type : goal.returns-then-is_wide_type
returns-then-is_wide_type c = any_here (λ (p : Param). wide (type_width p.ty)) _ _ c.param-item.result c.loop-param-test.true c.param-item.is (sym c.is_wide_type.ensures ∙ c.if-is_wide_type.true) c.loop-param.invariant

pub returns : goal.returns
returns c = any_end (λ (p : Param). wide (type_width p.ty)) _ _ c.loop-param-test.false c.loop-param.invariant
