use Rattle.sched_text.proofs.ScheduleLaws.{memory_wanted, only_bad, only_events}
use Rattle.sched_text.proofs.schedule.read_schedule.Goals as goal

pub returns-clause-only_events : goal.returns-clause-only_events
returns-clause-only_events c events spelled = only_events c.args.text.now c.read_events.result events c.read_events.ensures spelled

pub returns-clause-only_bad : goal.returns-clause-only_bad
returns-clause-only_bad c number bad = only_bad c.args.text.now c.read_events.result number c.read_events.ensures bad

pub returns-clause-memory : goal.returns-clause-memory
returns-clause-memory c = memory_wanted c.args.text.now c.read_events.result c.read_events.ensures
