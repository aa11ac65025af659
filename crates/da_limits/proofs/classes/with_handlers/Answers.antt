use Rattle.std.proofs.Common.{◌∙◌}
use Rattle.da_limits.proofs.ClassMembersAt.{handlers_step, handlers_here, handlers_end}
use Rattle.da_limits.proofs.classes.with_handlers.Goals as goal
use Rattle.da_limits.proofs.classes.with_handlers.Goals.{in-Receive, in_default}

pub loop-member-preserved : goal.loop-member-preserved
loop-member-preserved c = elim c.match-member.branch [
  | in-Receive w ↦ handlers_here _ c.loop-member.all w.handler_extent.result _ _ _ _ _ _ _ _ _ _ _ c.loop-member-test.true c.member-item.is w.in-Receive.is w.as_slice.ensures (w.handler_extent.ensures w.in-Receive.at w.in-Receive.line) (w.all-is ∙ w.beside-all.ensures) c.loop-member.invariant
  | in_default w ↦ handlers_step _ c.loop-member.all _ _ _ _ _ c.loop-member-test.true c.member-item.is w.in_default.not-Receive w.all-is c.loop-member.invariant
]

pub returns : goal.returns
returns c = handlers_end _ _ _ _ _ c.loop-member-test.false c.loop-member.invariant
