use Rattle.schedule_pick.proofs.ShuffleLemmas.{Drawn}
use Rattle.schedule_pick.proofs.order.shuffle.Given as goal

abbrev pub invariant-loop-turn : goal.invariant-loop-turn
invariant-loop-turn l = Drawn l.fn.actors l.fn.last l._turn l.left l.order l.number
