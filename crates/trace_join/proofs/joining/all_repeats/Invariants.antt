-- Of so many traces it was found what they get more than once.
use Rattle.trace_join.proofs.AllRepeatsLaws.{RepeatsSoFar}
use Rattle.trace_join.proofs.joining.all_repeats.Given as goal

abbrev pub invariant-loop-trace : goal.invariant-loop-trace
invariant-loop-trace l = RepeatsSoFar l.traces l.all l.trace-index
