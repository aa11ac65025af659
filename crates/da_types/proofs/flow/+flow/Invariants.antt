use Rattle.std.proofs.Common.{◌≡◌, map, drop}
use Rattle.da_lang.specs.Typing.{alt_flow, branch_flow, in_turn, item_types}
use Rattle.da_types.proofs.flow.+flow.Given as goal

abbrev pub invariant-items_types-loop-item : goal.invariant-items_types-loop-item
invariant-items_types-loop-item l = in_turn (map (item_types l.messages l.queries) (drop l.item-index l.items)) l.slots ≡ in_turn (map (item_types l.messages l.queries) l.items) l.initial.slots

abbrev pub invariant-branches_types-loop-branch : goal.invariant-branches_types-loop-branch
invariant-branches_types-loop-branch l = in_turn (map (branch_flow l.messages l.queries) (drop l.branch-index l.branches)) l.slots ≡ in_turn (map (branch_flow l.messages l.queries) l.branches) l.initial.slots

abbrev pub invariant-alts_types-loop-alt : goal.invariant-alts_types-loop-alt
invariant-alts_types-loop-alt l = in_turn (map (alt_flow l.messages l.queries) (drop l.alt-index l.alts)) l.slots ≡ in_turn (map (alt_flow l.messages l.queries) l.alts) l.initial.slots
