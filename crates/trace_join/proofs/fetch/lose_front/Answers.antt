-- One more is lost.
use Rattle.da_lang.specs.declared.event.Event.TheVariants.{Lose}
use Rattle.trace_join.proofs.QueueLaws.{lost_on}
use Rattle.trace_join.proofs.fetch.lose_front.Goals as goal

pub loop-place-preserved : goal.loop-place-preserved
loop-place-preserved c =
    lost_on c.loop-place._place c.args.count c.args.queue.now c.loop-place.queue c.remove.new.self c.args.events.now c.loop-place.events c.push.new.self
    (Lose c.args.wanted.now.from c.args.wanted.now.to 1)
    c.loop-place-test.true c.loop-place.invariant.1 c.loop-place.invariant.2 c.loop-place.invariant.3 c.remove.ensures c.in_ok-push.ensures
