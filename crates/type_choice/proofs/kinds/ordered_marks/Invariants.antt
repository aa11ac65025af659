use Rattle.da_lang.specs.Types.{ordered}
use Rattle.type_choice.proofs.SeenLaws.{SeenTo}
use Rattle.type_choice.proofs.kinds.ordered_marks.Given as goal

abbrev pub invariant-loop-number : goal.invariant-loop-number
invariant-loop-number l = SeenTo ordered l.forms l.order l.number-index l.marks
