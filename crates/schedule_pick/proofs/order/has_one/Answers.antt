use Rattle.schedule_pick.specs.Orders.{is_of}
use Rattle.schedule_pick.proofs.OrderLemmas.{none_more, none_there, some_here}
use Rattle.schedule_pick.proofs.order.has_one.Goals as goal

pub loop-event-preserved : goal.loop-event-preserved
loop-event-preserved c = none_more (is_of c.args.actor) c.args.events.now c.loop-event.event-index _ c.is_of.result c.loop-event-test.true c.loop-event.invariant c.is_of.ensures c.if-is_of.false

pub returns-then-is_of : goal.returns-then-is_of
returns-then-is_of c = some_here (is_of c.args.actor) c.args.events.now c.loop-event.event-index _ c.is_of.result c.loop-event-test.true c.is_of.ensures c.if-is_of.true

pub returns : goal.returns
returns c = none_there (is_of c.args.actor) c.args.events.now c.loop-event.event-index c.loop-event-test.false c.loop-event.invariant
