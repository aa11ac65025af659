use Rattle.std.proofs.Common.{◌∙◌, ap, flat_map, sym}
use Rattle.added_names.specs.Changes.{branch_changes, stmt_changes}
use Rattle.added_names.proofs.ChangesAt.{branch_of}
use Rattle.added_names.proofs.FirstLaws.{flat_more}
use Rattle.added_names.proofs.changes.+changes.Goals as goal

pub put_branches-loop-branch-preserved : goal.put_branches-loop-branch-preserved
put_branches-loop-branch-preserved t c =
    let l = c.loop-branch in
    flat_more branch_changes c.args.out.now l.out _ c.args.branches.now l.branch-index c.branch-item.result _ c.loop-branch-test.true c.branch-item.is l.invariant c.in_ok-put_body.ensures
    (ap (flat_map stmt_changes) c.as_slice.ensures ∙ sym (branch_of c.branch-item.result))
