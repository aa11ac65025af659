use Rattle.std.proofs.Common.{◌≡◌, take}
use Rattle.std.specs.List.{filter}
use Rattle.schedule_pick.specs.Orders.{is_of}
use Rattle.schedule_pick.proofs.order.events_of.Given as goal

abbrev pub invariant-loop-event : goal.invariant-loop-event
invariant-loop-event l = l.found ≡ filter (is_of l.actor) (take l.event-index l.events)
