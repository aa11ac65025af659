use Rattle.std.proofs.Common.{◌≡◌, ◌++◌, take}
use Rattle.std.specs.Prelude.{flat_map}
use Rattle.type_demands.specs.KnownView.{context_of}
use Rattle.class_demands.specs.Statements.{alt_demands, branch_demands, item_demands}
use Rattle.class_demands.proofs.items.+items.Given as goal

abbrev pub invariant-items_demands-loop-item : goal.invariant-items_demands-loop-item
invariant-items_demands-loop-item l = l.demands ≡ l.fn.demands ++ flat_map (item_demands (context_of l.known) l.known.queries.now) (take l.item-index l.items)

abbrev pub invariant-branches_demands-loop-branch : goal.invariant-branches_demands-loop-branch
invariant-branches_demands-loop-branch l = l.demands ≡ l.fn.demands ++ flat_map (branch_demands (context_of l.known) l.known.queries.now) (take l.branch-index l.branches)

abbrev pub invariant-alts_demands-loop-alt : goal.invariant-alts_demands-loop-alt
invariant-alts_demands-loop-alt l = l.demands ≡ l.fn.demands ++ flat_map (alt_demands (context_of l.known) l.known.queries.now) (take l.alt-index l.alts)
