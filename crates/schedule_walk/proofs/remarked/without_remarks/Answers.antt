use Rattle.schedule_walk.proofs.SpelledLaws.{bare_more}
use Rattle.schedule_walk.proofs.remarked.without_remarks.Goals as goal

pub loop-event-preserved : goal.loop-event-preserved
loop-event-preserved c = bare_more c.args.events.now c.loop-event.event-index _ _ _ c.loop-event-test.true c.loop-event.invariant c.in_ok-put_row.ensures
