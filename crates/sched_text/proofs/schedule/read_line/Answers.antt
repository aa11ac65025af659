use Rattle.std.proofs.Common.{sym, subst}
use Rattle.sched_text.specs.Reading.{Adds, added, passed_over}
use Rattle.sched_text.proofs.schedule.read_line.Goals as goal

pub returns-then-is_skipped-clause-ok : goal.returns-then-is_skipped-clause-ok
returns-then-is_skipped-clause-ok c = passed_over c.if-is_skipped.ensures

pub returns-in_ok-push-in-Some-clause-ok : goal.returns-in_ok-push-in-Some-clause-ok
returns-in_ok-push-in-Some-clause-ok c =
    subst (Adds c.args.line.now c.args.events.now) (sym c.in_ok-push-in-Some.ensures.ok) (added c.in-Some.event c.in-Some.ensures.some)
