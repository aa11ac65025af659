use Rattle.std.proofs.Common.{◌≡◌, drop}
use Rattle.std.specs.Prelude.{flat_map}
use Rattle.da_lang.specs.Typing.{alt_broken, branch_broken, item_breaks}
use Rattle.da_types.specs.Telling.{telling}
use Rattle.da_types.proofs.lines.+lines.Given as goal

abbrev pub invariant-tell_items-loop-item : goal.invariant-tell_items-loop-item
invariant-tell_items-loop-item l = telling l.least (flat_map (item_breaks l.known.messages.now l.queries l.known.slots.now) (drop l.item-index l.items)) ≡ telling l.initial.least (flat_map (item_breaks l.known.messages.now l.queries l.known.slots.now) l.items)

abbrev pub invariant-tell_branches-loop-branch : goal.invariant-tell_branches-loop-branch
invariant-tell_branches-loop-branch l = telling l.least (flat_map (branch_broken l.known.messages.now l.queries l.known.slots.now) (drop l.branch-index l.branches)) ≡ telling l.initial.least (flat_map (branch_broken l.known.messages.now l.queries l.known.slots.now) l.branches)

abbrev pub invariant-tell_alts-loop-alt : goal.invariant-tell_alts-loop-alt
invariant-tell_alts-loop-alt l = telling l.least (flat_map (alt_broken l.known.messages.now l.queries l.known.slots.now) (drop l.alt-index l.alts)) ≡ telling l.initial.least (flat_map (alt_broken l.known.messages.now l.queries l.known.slots.now) l.alts)
