use Rattle.da_values.specs.Value.{val_of}
use Rattle.history_live.proofs.ReadingAt.{NoneYet}
use Rattle.history_live.proofs.reading.matches.Given as goal

abbrev pub invariant-loop-pattern : goal.invariant-loop-pattern
invariant-loop-pattern l = NoneYet l.source (val_of l.m) l.peer l.me l.patterns l.pattern-index
