use Rattle.std.proofs.Common.{◌∙◌, ap, sym, map}
use Rattle.da_lang.specs.ClassParts.{stmts_if}
use Rattle.da_limits.specs.Copied.{copied}
use Rattle.da_limits.specs.Extents.{as_block, extent}
use Rattle.da_limits.proofs.ClassMembersAt.{run_step, run_here, run_end}
use Rattle.da_limits.proofs.ExtentRules.{block-empty}
use Rattle.da_limits.proofs.classes.run_extent.Goals as goal

pub returns-in-Run : goal.returns-in-Run
returns-in-Run c =
    c.block.ensures ∙ ap (λ ss. as_block (map (extent (copied c.args.copies.now)) ss)) c.as_slice.ensures
    ∙ sym (ap (λ b. as_block (map (extent (copied c.args.copies.now)) (stmts_if b))) (run_here c.args.members.now c.loop-member.member-index c.member-item.result _ _ c.loop-member-test.true c.member-item.is c.in-Run.is c.loop-member.invariant))

pub loop-member-preserved : goal.loop-member-preserved
loop-member-preserved c = run_step _ _ _ c.loop-member-test.true c.member-item.is c.in_default.not-Run c.loop-member.invariant

pub returns : goal.returns
returns c =
    c.nothing.ensures ∙ sym (ap (λ b. as_block (map (extent (copied c.args.copies.now)) (stmts_if b))) (run_end _ _ c.loop-member-test.false c.loop-member.invariant) ∙ block-empty)
