use Rattle.std.proofs.Common.{◌∙◌, ◌<◌, ap, subst}
use Rattle.da_system.specs.StressRun.{place_in}
use Rattle.schedule_pick.proofs.ShuffleLemmas.{drawn_ends, drawn_first, drawn_on}
use Rattle.schedule_pick.proofs.order.shuffle.Goals as goal

pub loop-turn-init : goal.loop-turn-init
loop-turn-init c = drawn_first _ _ _ c.new-order.ensures

pub loop-turn-preserved : goal.loop-turn-preserved
loop-turn-preserved c =
    drawn_on _ _ _ _ _ _ c.loop-turn.invariant _ _ _ _ _ c.next_number-next.ensures (c.place_in-place.ensures.place ∙ ap (λ n. place_in n c.next_number-next.result) c.len-size.ensures)
    (subst (λ n. c.place_in-place.result < n) c.len-size.ensures c.place_in-place.ensures.within)
    c.remove-actor.ensures.value c.remove-actor.ensures.rest c.in_ok-push.ensures.ok

pub returns-clause-order : goal.returns-clause-order
returns-clause-order c = (drawn_ends _ _ _ _ _ _ c.loop-turn.invariant _ c.len-count.ensures c.loop-turn-test.false).0

pub returns-clause-last : goal.returns-clause-last
returns-clause-last c = (drawn_ends _ _ _ _ _ _ c.loop-turn.invariant _ c.len-count.ensures c.loop-turn-test.false).1
