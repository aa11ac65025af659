use Rattle.std.proofs.Common.{◌≡◌, take}
use Rattle.da_lang.specs.ExprNames.{Local, pattern_part}
use Rattle.da_bodies.specs.Told.{told_all}
use Rattle.da_bodies.proofs.expressions.+handled.Given as goal

abbrev pub invariant-check_patterns-loop-pattern : goal.invariant-check_patterns-loop-pattern
invariant-check_patterns-loop-pattern l = record {
  told : l.least ≡ told_all pattern_part l.line Local l.initial.names l.initial.least (take l.pattern-index l.patterns);
  same : l.names ≡ l.initial.names;
}
