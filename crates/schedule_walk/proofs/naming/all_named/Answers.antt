use Rattle.std.proofs.lemmas.List.Elements.{All-more}
use Rattle.sched_text.specs.EventText.{HasNames}
use Rattle.schedule_walk.proofs.NameLemmas.{are_all_named, not_all_named}
use Rattle.schedule_walk.proofs.naming.all_named.Goals as goal

pub loop-event-preserved : goal.loop-event-preserved
loop-event-preserved c = All-more HasNames c.args.events.now c.loop-event.event-index _ c.loop-event-test.true c.loop-event.invariant (c.has_names.ensures.0 c.if-not-has_names.false)

pub returns-then-not-has_names : goal.returns-then-not-has_names
returns-then-not-has_names c = not_all_named _ c.args.events.now c.loop-event.event-index _ c.loop-event-test.true c.has_names.ensures c.if-not-has_names.true

pub returns : goal.returns
returns c = are_all_named c.args.events.now c.loop-event.event-index c.loop-event-test.false c.loop-event.invariant
