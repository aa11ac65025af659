use Rattle.type_choice.specs.Marks.{Filled}
use Rattle.type_choice.proofs.filled.fill.Given as goal

abbrev pub invariant-loop-number : goal.invariant-loop-number
invariant-loop-number l = Filled l.initial.forms l.numbers l.number-index l.forms
