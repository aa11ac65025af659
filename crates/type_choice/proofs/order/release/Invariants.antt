use Rattle.type_choice.proofs.OrderLaws.{IsReleased}
use Rattle.type_choice.proofs.order.release.Given as goal

abbrev pub invariant-loop-pair : goal.invariant-loop-pair
invariant-loop-pair l = IsReleased l.forms l.at l.pair-items l.pair-index l.walk
