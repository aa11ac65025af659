use Rattle.schedule_pick.proofs.ShuffleLemmas.{Placed}
use Rattle.schedule_pick.proofs.order.places.Given as goal

abbrev pub invariant-loop-turn : goal.invariant-loop-turn
invariant-loop-turn l = Placed l.count l.last l.most l._turn l.made l.number
