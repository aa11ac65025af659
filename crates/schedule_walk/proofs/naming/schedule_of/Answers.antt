use Rattle.std.proofs.Common.{◌≤◌, subst}
use Rattle.sched_text.specs.ScheduleText.{schedule_limit}
use Rattle.schedule_walk.proofs.NameLemmas.{lines_more, spelled}
use Rattle.schedule_walk.proofs.naming.schedule_of.Goals as goal

pub loop-event-preserved : goal.loop-event-preserved
loop-event-preserved c = lines_more c.args.events.now c.loop-event.event-index _ _ _ c.loop-event-test.true c.loop-event.invariant c.in_ok-write_event.ensures.ok

pub returns-clause-spells : goal.returns-clause-spells
returns-clause-spells c =
    spelled c.args.events.now c.loop-event.event-index _ c.loop-event-test.false c.loop-event.invariant (c.all_named.ensures.0 c.if-not-all_named.false)
    (subst (λ n. n ≤ schedule_limit) c.len.ensures c.if-len-gt-SCHEDULE_LIMIT.false)
