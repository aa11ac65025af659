use Rattle.std.proofs.Common.{◌∙◌, sym}
use Rattle.da_limits.proofs.LimitLinesAt.{any_step_at, any_here_at, any_end}
use Rattle.da_limits.proofs.lines.some_many_variables.Goals as goal

pub loop-size-preserved : goal.loop-size-preserved
loop-size-preserved c = any_step_at _ _ _ _ c.loop-size-test.true (sym c.has_many_variables.ensures ∙ c.if-has_many_variables.false) c.loop-size.invariant

pub returns-then-has_many_variables : goal.returns-then-has_many_variables
returns-then-has_many_variables c = any_here_at _ _ _ _ c.loop-size-test.true (sym c.has_many_variables.ensures ∙ c.if-has_many_variables.true) c.loop-size.invariant

pub returns : goal.returns
returns c = any_end _ _ _ c.loop-size-test.false c.loop-size.invariant
