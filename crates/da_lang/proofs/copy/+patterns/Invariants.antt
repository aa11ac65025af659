use Rattle.std.proofs.Common.{◌≡◌, take}
use Rattle.da_lang.proofs.copy.+patterns.Given as goal

abbrev pub invariant-copy_patterns-loop-pattern : goal.invariant-copy_patterns-loop-pattern
invariant-copy_patterns-loop-pattern l = l.copy ≡ take l.pattern-index l.patterns
