use Rattle.std.proofs.lemmas.List.Elements.{All-more}
use Rattle.schedule_walk.specs.Rest.{IsIdle}
use Rattle.schedule_walk.proofs.RestLaws.{all_idle, one_goes_on, one_idle}
use Rattle.schedule_walk.proofs.resting.none_goes_on.Goals as goal

pub loop-event-preserved : goal.loop-event-preserved
loop-event-preserved c = All-more IsIdle c.args.events.now c.loop-event.event-index _ c.loop-event-test.true c.loop-event.invariant (one_idle _ _ c.is_idle.ensures c.if-not-is_idle.false)

pub returns-then-not-is_idle : goal.returns-then-not-is_idle
returns-then-not-is_idle c = one_goes_on _ c.args.events.now c.loop-event.event-index _ c.loop-event-test.true c.is_idle.ensures c.if-not-is_idle.true

pub returns : goal.returns
returns c = all_idle c.args.events.now c.loop-event.event-index c.loop-event-test.false c.loop-event.invariant
