use Rattle.schedule_walk.proofs.NextLemmas.{remarked_more, shown_plain}
use Rattle.schedule_walk.proofs.remarked.with_remarks.Goals as goal

pub loop-place-preserved : goal.loop-place-preserved
loop-place-preserved c = remarked_more c.args.events.now c.loop-place.place _ _ _ _ c.loop-place-test.true c.loop-place.invariant (shown_plain _) c.in_ok-put_row.ensures
