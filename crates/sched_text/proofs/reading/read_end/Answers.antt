use Rattle.sched_text.proofs.FieldLaws.{lacks_end, not_empty}
use Rattle.sched_text.proofs.reading.read_end.Goals as goal

pub returns-else-is_empty-clause-none : goal.returns-else-is_empty-clause-none
returns-else-is_empty-clause-none c =
    lacks_end c.in_ok-p.p c.args.rest.now c.in_ok-p.rest.now
    c.in_ok-p.ensures.some.0 c.in_ok-p.ensures.some.1 c.in_ok-p.ensures.some.2 (not_empty c.in_ok-p.rest.now c.if-is_empty.ensures)
