use Rattle.std.proofs.Common.{take}
use Rattle.da_values.specs.Sets.{Has}
use Rattle.history_live.proofs.live.is_among.Given as goal

abbrev pub invariant-loop-pattern : goal.invariant-loop-pattern
invariant-loop-pattern l = Has (take l.pattern-index l.patterns) l.live → ⊥
