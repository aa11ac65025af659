use Rattle.std.proofs.Common.{◌∙◌, ap, sym, map}
use Rattle.da_limits.specs.Copied.{copied}
use Rattle.da_limits.specs.Extents.{as_block, extent, body_extent_if}
use Rattle.da_limits.proofs.ClassMembersAt.{setup_step, setup_here, setup_end}
use Rattle.da_limits.proofs.ExtentRules.{body_made}
use Rattle.da_limits.proofs.classes.setup_extent.Goals as goal

pub returns-in-Setup : goal.returns-in-Setup
returns-in-Setup c =
    body_made _ _ _ _ _ _ c.len.ensures c.capped.ensures (c.block.ensures ∙ ap (λ ss. as_block (map (extent (copied c.args.copies.now)) ss)) c.as_slice.ensures) c.wider.ensures
    ∙ sym (ap (body_extent_if (copied c.args.copies.now)) (setup_here c.args.members.now c.loop-member.member-index c.member-item.result _ _ _ c.loop-member-test.true c.member-item.is c.in-Setup.is c.loop-member.invariant))

pub loop-member-preserved : goal.loop-member-preserved
loop-member-preserved c = setup_step _ _ _ c.loop-member-test.true c.member-item.is c.in_default.not-Setup c.loop-member.invariant

pub returns : goal.returns
returns c = c.nothing.ensures ∙ sym (ap (body_extent_if (copied c.args.copies.now)) (setup_end _ _ c.loop-member-test.false c.loop-member.invariant))
