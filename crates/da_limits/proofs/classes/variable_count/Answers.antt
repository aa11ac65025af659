use Rattle.std.proofs.Common.{◌∙◌, sym, arith}
use Rattle.da_limits.proofs.ClassMembersAt.{variables_step, variables_end}
use Rattle.da_limits.proofs.classes.variable_count.Goals as goal
use Rattle.da_limits.proofs.classes.variable_count.Goals.{then-is_variable, else-is_variable}

pub loop-member-preserved : goal.loop-member-preserved
loop-member-preserved c = elim c.if-is_variable.branch [
  | then-is_variable w ↦ record {
    counted = variables_step _ _ c.member-item.result _ c.loop-member.count _ _ c.loop-member-test.true c.member-item.is (sym c.is_variable.ensures ∙ w.if-is_variable.true) (w.count-is ∙ w.saturating_add-count.ensures) c.loop-member.invariant.counted;
    fits = omega (arith, w.count-is, w.saturating_add-count.ensures);
  }
  | else-is_variable w ↦ record {
    counted = variables_step _ _ c.member-item.result _ c.loop-member.count _ _ c.loop-member-test.true c.member-item.is (sym c.is_variable.ensures ∙ w.if-is_variable.false) (omega (arith, w.count-is, c.loop-member.invariant.fits)) c.loop-member.invariant.counted;
    fits = omega (arith, w.count-is, c.loop-member.invariant.fits);
  }
]

pub returns : goal.returns
returns c = variables_end _ _ _ _ c.loop-member-test.false (omega (arith, c.loop-member.invariant.fits)) c.loop-member.invariant.counted
