use Rattle.std.proofs.Common.{take}
use Rattle.delta_rules.specs.SlotUse.{AreNamed}
use Rattle.delta_rules.proofs.uses.all_named.Given as goal

abbrev pub invariant-loop-node : goal.invariant-loop-node
invariant-loop-node l = AreNamed (take l.node-index l.nodes) l.lists
