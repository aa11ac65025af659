use Rattle.da_lang.specs.Typing.{alt_broken, branch_broken, item_breaks}
use Rattle.da_types.proofs.TellingLaws.{told_done, told_more}
use Rattle.da_types.proofs.lines.+lines.Goals as goal

pub tell_items-loop-item-preserved : goal.tell_items-loop-item-preserved
tell_items-loop-item-preserved t c =
    told_more (item_breaks c.args.known.now.messages.now c.args.queries.now c.args.known.now.slots.now) c.args.items.now c.loop-item.item-index c.item-item.result _ _ _
    c.loop-item-test.true c.item-item.is c.loop-item.invariant c.in_ok-tell_item.ensures

pub tell_items-returns : goal.tell_items-returns
tell_items-returns t c =
    told_done (item_breaks c.args.known.now.messages.now c.args.queries.now c.args.known.now.slots.now) c.args.items.now c.loop-item.item-index _ _ c.loop-item-test.false c.loop-item.invariant

pub tell_branches-loop-branch-preserved : goal.tell_branches-loop-branch-preserved
tell_branches-loop-branch-preserved t c =
    told_more (branch_broken c.args.known.now.messages.now c.args.queries.now c.args.known.now.slots.now) c.args.branches.now c.loop-branch.branch-index c.branch-item.result _ _ _
    c.loop-branch-test.true c.branch-item.is c.loop-branch.invariant c.in_ok-tell_branch.ensures

pub tell_branches-returns : goal.tell_branches-returns
tell_branches-returns t c =
    told_done (branch_broken c.args.known.now.messages.now c.args.queries.now c.args.known.now.slots.now) c.args.branches.now c.loop-branch.branch-index _ _ c.loop-branch-test.false c.loop-branch.invariant

pub tell_alts-loop-alt-preserved : goal.tell_alts-loop-alt-preserved
tell_alts-loop-alt-preserved t c =
    told_more (alt_broken c.args.known.now.messages.now c.args.queries.now c.args.known.now.slots.now) c.args.alts.now c.loop-alt.alt-index c.alt-item.result _ _ _
    c.loop-alt-test.true c.alt-item.is c.loop-alt.invariant c.in_ok-tell_alt.ensures

pub tell_alts-returns : goal.tell_alts-returns
tell_alts-returns t c =
    told_done (alt_broken c.args.known.now.messages.now c.args.queries.now c.args.known.now.slots.now) c.args.alts.now c.loop-alt.alt-index _ _ c.loop-alt-test.false c.loop-alt.invariant
