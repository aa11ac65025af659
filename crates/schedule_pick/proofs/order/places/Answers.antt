use Rattle.schedule_pick.proofs.ShuffleLemmas.{placed_ends, placed_first, placed_on}
use Rattle.schedule_pick.proofs.order.places.Goals as goal

pub loop-turn-init : goal.loop-turn-init
loop-turn-init c = placed_first _ _ _ _ c.new-made.ensures

pub loop-turn-preserved : goal.loop-turn-preserved
loop-turn-preserved c = placed_on _ _ _ _ _ _ c.loop-turn.invariant _ _ _ c.loop-turn-test.true c.next_number-next.ensures c.place_at-place.ensures c.in_ok-push.ensures.ok

pub returns-clause-places : goal.returns-clause-places
returns-clause-places c = (placed_ends _ _ _ _ _ _ c.loop-turn.invariant c.loop-turn-test.false).0

pub returns-clause-last : goal.returns-clause-last
returns-clause-last c = (placed_ends _ _ _ _ _ _ c.loop-turn.invariant c.loop-turn-test.false).1
