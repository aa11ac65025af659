use Rattle.type_fitting.proofs.LoopLaws.{ShortTo}
use Rattle.type_fitting.proofs.sights.are_short.Given as goal

abbrev pub invariant-loop-number : goal.invariant-loop-number
invariant-loop-number l = ShortTo l.looks l.count l.number
