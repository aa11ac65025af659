use Rattle.schedule_pick.specs.Orders.{is_of}
use Rattle.schedule_pick.proofs.OrderLemmas.{kept_all, kept_on}
use Rattle.schedule_pick.proofs.order.events_of.Goals as goal

pub loop-event-preserved : goal.loop-event-preserved
loop-event-preserved c =
    kept_on (is_of c.args.actor) c.args.events.now c.loop-event.event-index _ c.loop-event.found c.add_of.new.out c.loop-event-test.true c.loop-event.invariant c.in_ok-add_of.ensures

pub returns : goal.returns
returns c = kept_all (is_of c.args.actor) c.args.events.now c.loop-event.event-index c.loop-event.found c.loop-event-test.false c.loop-event.invariant
