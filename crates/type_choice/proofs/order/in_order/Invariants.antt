use Rattle.std.proofs.Common.{◌-◌, length}
use Rattle.type_choice.specs.Walks.{IsWalked, NoneLeft}
use Rattle.type_choice.proofs.order.in_order.Given as goal

abbrev pub invariant-loop-at : goal.invariant-loop-at
invariant-loop-at l = IsWalked l.forms l.at NoneLeft l.walk

abbrev pub decreases-loop-at : goal.decreases-loop-at
decreases-loop-at l = length l.forms - l.at
