use Rattle.std.proofs.Common.{drop, map}
use Rattle.da_core.specs.Waits.{all_taken, alt_take, alts_taken, branch_take, item_take, items_take}
use Rattle.da_core.proofs.WaitForms.{AltsCame, Came}
use Rattle.da_core.proofs.waits.+waits.Given as goal

abbrev pub invariant-add_items-loop-item : goal.invariant-add_items-loop-item
invariant-add_items-loop-item l = Came (map item_take (drop l.item-index l.items)) (items_take l.items l.initial.flags.rest.now) l.initial.waits l.waits l.flags.rest.now

abbrev pub invariant-add_branches-loop-branch : goal.invariant-add_branches-loop-branch
invariant-add_branches-loop-branch l =
    Came (map branch_take (drop l.branch-index l.branches)) (all_taken (map branch_take l.branches) l.initial.flags.rest.now) l.initial.waits l.waits l.flags.rest.now

abbrev pub invariant-alternatives-loop-alt : goal.invariant-alternatives-loop-alt
invariant-alternatives-loop-alt l =
    AltsCame (map alt_take (drop l.alt-index l.alts)) (alts_taken (map alt_take l.alts) l.initial.flags.rest.now) l.own l.initial.inside l.inside l.flags.rest.now
