use Rattle.type_table.proofs.NumberLaws.{SoFar}
use Rattle.type_table.proofs.number.+schemes.Given as goal

abbrev pub invariant-numbers_of-loop-part : goal.invariant-numbers_of-loop-part
invariant-numbers_of-loop-part l = SoFar l.initial.forms l.initial.equations l.forms l.equations l.parts l.part-index l.numbers
