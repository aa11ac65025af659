use Rattle.std.proofs.Common.{◌≡◌, take, false}
use Rattle.std.specs.List.{list_any}
use Rattle.schedule_pick.specs.Orders.{is_of}
use Rattle.schedule_pick.proofs.order.has_one.Given as goal

abbrev pub invariant-loop-event : goal.invariant-loop-event
invariant-loop-event l = list_any (is_of l.actor) (take l.event-index l.events) ≡ false
