use Rattle.std.proofs.Common.{◌<◌, length, subst}
use Rattle.std.specs.List.{All}
use Rattle.schedule_pick.specs.OrderSteps.{HasNone, IsFirstOf}
use Rattle.schedule_pick.proofs.OrderLemmas.{fallen_none, falls_to_end}
use Rattle.schedule_pick.proofs.order.fall.Goals as goal

pub returns-in_default : goal.returns-in_default
returns-in_default c =
    let none : All (HasNone c.args.events.now) c.as_slice.result.now = rw c.in_default.is at c.first_of-found.ensures.first in
    fallen_none c.args.events.now c.args.order.now (subst (All (HasNone c.args.events.now)) c.as_slice.ensures none)

pub remove-actor-requires : goal.remove-actor-requires
remove-actor-requires c =
    let inside : c.in-Some.place < length c.as_slice.result.now = rw c.in-Some.is at c.first_of-found.ensures.within in
    subst (λ order. c.in-Some.place < length order) c.as_slice.ensures inside

pub returns : goal.returns
returns c =
    let first : IsFirstOf c.args.events.now c.as_slice.result.now c.in-Some.place = rw c.in-Some.is at c.first_of-found.ensures.first in
    falls_to_end c.args.events.now c.args.order.now c.in-Some.place _ _ _ (subst (λ order. IsFirstOf c.args.events.now order c.in-Some.place) c.as_slice.ensures first) c.remove-actor.ensures.value c.remove-actor.ensures.rest
    c.in_ok-push.ensures.ok
