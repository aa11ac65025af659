use Rattle.da_lang.specs.Types.{is_set}
use Rattle.type_choice.proofs.SeenLaws.{SeenTo}
use Rattle.type_choice.proofs.kinds.set_marks.Given as goal

abbrev pub invariant-loop-number : goal.invariant-loop-number
invariant-loop-number l = SeenTo is_set l.forms l.order l.number-index l.marks
