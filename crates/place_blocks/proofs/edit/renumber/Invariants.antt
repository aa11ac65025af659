use Rattle.place_blocks.proofs.NumberedLaws.{AreNumbered}
use Rattle.place_blocks.proofs.edit.renumber.Given as goal

abbrev pub invariant-loop-k : goal.invariant-loop-k
invariant-loop-k l = AreNumbered l.fn.blocks.items l.blocks.items l.k l.next
