use Rattle.std.proofs.Common.{take}
use Rattle.std.specs.List.{list_any}
use Rattle.delta_rules.specs.Naming.{cond_names}
use Rattle.delta_rules.specs.SlotUse.{Adds}
use Rattle.delta_rules.proofs.uses.+conditions.Given as goal

abbrev pub invariant-note_conditions-loop-condition : goal.invariant-note_conditions-loop-condition
invariant-note_conditions-loop-condition l = Adds (λ s. list_any (cond_names s) (take l.condition-index l.conditions)) l.initial.slots l.slots
