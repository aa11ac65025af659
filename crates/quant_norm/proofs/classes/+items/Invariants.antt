use Rattle.std.proofs.Common.{◌≡◌, drop}
use Rattle.std.specs.Prelude.{flat_map}
use Rattle.query_plan.specs.Questions.{item_met}
use Rattle.quant_norm.specs.Making.{alt_met, branch_met, made_with}
use Rattle.quant_norm.proofs.classes.+items.Given as goal

abbrev pub invariant-put_items-loop-item : goal.invariant-put_items-loop-item
invariant-put_items-loop-item l = made_with (flat_map item_met l.items) (l.fn.plan, drop l.fn.taken l.queries) ≡ made_with (flat_map item_met (drop l.item-index l.items)) (l.plan, drop l.next l.queries)

abbrev pub invariant-put_branches-loop-branch : goal.invariant-put_branches-loop-branch
invariant-put_branches-loop-branch l = made_with (flat_map branch_met l.branches) (l.fn.plan, drop l.fn.taken l.queries) ≡ made_with (flat_map branch_met (drop l.branch-index l.branches)) (l.plan, drop l.next l.queries)

abbrev pub invariant-put_alts-loop-alt : goal.invariant-put_alts-loop-alt
invariant-put_alts-loop-alt l = made_with (flat_map alt_met l.alts) (l.fn.plan, drop l.fn.taken l.queries) ≡ made_with (flat_map alt_met (drop l.alt-index l.alts)) (l.plan, drop l.next l.queries)
