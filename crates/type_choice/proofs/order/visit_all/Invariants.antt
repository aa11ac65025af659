use Rattle.type_choice.specs.Walks.{IsWalked, FromOn}
use Rattle.type_choice.proofs.order.visit_all.Given as goal

abbrev pub invariant-loop-number : goal.invariant-loop-number
invariant-loop-number l = IsWalked l.forms 0 (FromOn l.number) l.walk
