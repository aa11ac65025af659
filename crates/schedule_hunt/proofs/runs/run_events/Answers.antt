use Rattle.std.proofs.Common.{refl}
use Rattle.schedule_hunt.proofs.RunLemmas.{came_on, stops_here}
use Rattle.schedule_hunt.proofs.runs.run_events.Goals as goal

pub returns-then-not-branch : goal.returns-then-not-branch
returns-then-not-branch c =
    let came = c.loop-event.invariant in
    stops_here _ _ _ _ came _ _ refl c.loop-event-test.true _ _ c.if-not-branch.true (c.in_ok-execute.ensures.carried came.now came.stands)

pub loop-event-preserved : goal.loop-event-preserved
loop-event-preserved c =
    let came = c.loop-event.invariant in
    came_on _ _ _ _ came _ _ refl c.loop-event-test.true _ _ c.if-not-branch.false (c.in_ok-execute.ensures.carried came.now came.stands) c.in_ok-execute.ensures.program
