use Rattle.std.proofs.Common.{take}
use Rattle.std.specs.List.{list_any}
use Rattle.delta_rules.specs.Naming.{part_names}
use Rattle.delta_rules.specs.SlotUse.{Adds}
use Rattle.delta_rules.proofs.uses.+operands.Given as goal

abbrev pub invariant-note_more-loop-signed : goal.invariant-note_more-loop-signed
invariant-note_more-loop-signed l = Adds (λ s. list_any (part_names s) (take l.signed-index l.more)) l.initial.slots l.slots
