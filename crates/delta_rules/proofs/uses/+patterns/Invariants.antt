use Rattle.std.proofs.Common.{take}
use Rattle.std.specs.List.{list_any}
use Rattle.da_lang.specs.Naming.{pattern_names}
use Rattle.delta_rules.specs.SlotUse.{Adds}
use Rattle.delta_rules.proofs.uses.+patterns.Given as goal

abbrev pub invariant-note_patterns-loop-pattern : goal.invariant-note_patterns-loop-pattern
invariant-note_patterns-loop-pattern l = Adds (λ s. list_any (pattern_names s) (take l.pattern-index l.patterns)) l.initial.slots l.slots
