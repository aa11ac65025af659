use Rattle.std.proofs.Common.{take}
use Rattle.std.specs.List.{list_any}
use Rattle.da_lang.specs.Naming.{names}
use Rattle.delta_rules.specs.SlotUse.{Adds}
use Rattle.delta_rules.proofs.uses.+terms.Given as goal

abbrev pub invariant-note_terms-loop-term : goal.invariant-note_terms-loop-term
invariant-note_terms-loop-term l = Adds (λ s. list_any (names s) (take l.term-index l.terms)) l.initial.slots l.slots
