use Rattle.std.proofs.Common.{◌≡◌, ◌++◌, drop, map}
use Rattle.untyped_laws.specs.Flow.{alt_steps, body_steps, branch_steps, joined}
use Rattle.class_demands.specs.Heads.{after_steps, heads}
use Rattle.class_demands.proofs.heads.+heads.Given as goal

abbrev pub invariant-items_heads-loop-item : goal.invariant-items_heads-loop-item
invariant-items_heads-loop-item l =
    let left = body_steps (drop l.item-index l.items) in
    let whole = body_steps l.items in
    (after_steps l.messages l.queries left l.slots ≡ after_steps l.messages l.queries whole l.initial.slots)
    × (l.heads ++ heads l.messages l.queries left l.slots ≡ l.initial.heads ++ heads l.messages l.queries whole l.initial.slots)

abbrev pub invariant-branches_heads-loop-branch : goal.invariant-branches_heads-loop-branch
invariant-branches_heads-loop-branch l =
    let left = joined (map branch_steps (drop l.branch-index l.branches)) in
    let whole = joined (map branch_steps l.branches) in
    (after_steps l.messages l.queries left l.slots ≡ after_steps l.messages l.queries whole l.initial.slots)
    × (l.heads ++ heads l.messages l.queries left l.slots ≡ l.initial.heads ++ heads l.messages l.queries whole l.initial.slots)

abbrev pub invariant-alts_heads-loop-alt : goal.invariant-alts_heads-loop-alt
invariant-alts_heads-loop-alt l =
    let left = joined (map alt_steps (drop l.alt-index l.alts)) in
    let whole = joined (map alt_steps l.alts) in
    (after_steps l.messages l.queries left l.slots ≡ after_steps l.messages l.queries whole l.initial.slots)
    × (l.heads ++ heads l.messages l.queries left l.slots ≡ l.initial.heads ++ heads l.messages l.queries whole l.initial.slots)
