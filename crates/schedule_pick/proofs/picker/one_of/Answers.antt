use Rattle.std.proofs.Common.{◌∙◌, ◌<◌, ap, arith, length, sym}
use Rattle.std.specs.List.{All}
use Rattle.da_system.specs.StressRun.{pick}
use Rattle.schedule_pick.specs.OrderSteps.{HasNone, IsFirstOf}
use Rattle.schedule_pick.proofs.OrderLemmas.{foremost_at, foremost_none}
use Rattle.schedule_pick.proofs.picker.one_of.Goals as goal

pub returns-in_default : goal.returns-in_default
returns-in_default c =
    let none : All (HasNone c.args.events.now) c.args.order.now = rw c.in_default.is at c.first_of-found.ensures.first in
    c.one_of_all-any.ensures ∙ ap (λ events. pick events c.args.number) (sym (foremost_none c.args.events.now c.args.order.now none))

pub bounds-order-place : goal.bounds-order-place
bounds-order-place c =
    let inside : c.in-Some.place < length c.args.order.now = rw c.in-Some.is at c.first_of-found.ensures.within in
    omega (arith, inside)

pub returns : goal.returns
returns c =
    let first : IsFirstOf c.args.events.now c.args.order.now c.in-Some.place = rw c.in-Some.is at c.first_of-found.ensures.first in
    let inside : c.in-Some.place < length c.args.order.now = rw c.in-Some.is at c.first_of-found.ensures.within in
    c.one_of_all-event.ensures
    ∙ ap (λ events. pick events c.args.number) (c.as_slice.ensures ∙ c.in_ok-foremost.ensures ∙ sym (foremost_at c.args.events.now c.args.order.now c.in-Some.place _ inside first))
