use Rattle.untyped_laws.specs.Flow.{alt_steps, branch_steps, item_steps}
use Rattle.class_demands.proofs.WalkForms.{walk_more}
use Rattle.class_demands.proofs.heads.+heads.Goals as goal

pub items_heads-loop-item-preserved : goal.items_heads-loop-item-preserved
items_heads-loop-item-preserved t c =
    walk_more c.args.messages.now c.args.queries.now item_steps c.args.items.now c.loop-item.item-index c.item-item.result c.loop-item.slots c.item_heads.new.slots _ c.loop-item.heads c.item_heads.new.heads _
    c.loop-item-test.true c.item-item.is c.loop-item.invariant c.in_ok-item_heads.ensures

pub branches_heads-loop-branch-preserved : goal.branches_heads-loop-branch-preserved
branches_heads-loop-branch-preserved t c =
    walk_more c.args.messages.now c.args.queries.now branch_steps c.args.branches.now c.loop-branch.branch-index c.branch-item.result c.loop-branch.slots c.branch_heads.new.slots _ c.loop-branch.heads c.branch_heads.new.heads _
    c.loop-branch-test.true c.branch-item.is c.loop-branch.invariant c.in_ok-branch_heads.ensures

pub alts_heads-loop-alt-preserved : goal.alts_heads-loop-alt-preserved
alts_heads-loop-alt-preserved t c =
    walk_more c.args.messages.now c.args.queries.now alt_steps c.args.alts.now c.loop-alt.alt-index c.alt-item.result c.loop-alt.slots c.alt_heads.new.slots _ c.loop-alt.heads c.alt_heads.new.heads _
    c.loop-alt-test.true c.alt-item.is c.loop-alt.invariant c.in_ok-alt_heads.ensures
