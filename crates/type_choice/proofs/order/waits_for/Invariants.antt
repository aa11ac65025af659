use Rattle.type_choice.specs.Order.{needs}
use Rattle.type_choice.specs.Walks.{AreMarkedTo}
use Rattle.type_choice.proofs.order.waits_for.Given as goal

abbrev pub invariant-loop-place : goal.invariant-loop-place
invariant-loop-place l = AreMarkedTo l.marks (needs l.form) l.from → AreMarkedTo l.marks (needs l.form) l.place
