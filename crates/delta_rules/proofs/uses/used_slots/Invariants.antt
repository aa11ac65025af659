use Rattle.std.proofs.Common.{take, []}
use Rattle.std.specs.List.{list_any}
use Rattle.delta_rules.specs.SlotUse.{Adds, uses}
use Rattle.delta_rules.proofs.uses.used_slots.Given as goal

abbrev pub invariant-loop-node : goal.invariant-loop-node
invariant-loop-node l = Adds (λ s. list_any (uses s) (take l.node-index l.nodes)) [] l.slots
