use Rattle.std.proofs.Common.{arith}
use Rattle.sched_text.proofs.FieldLaws.{lacks_last, not_empty}
use Rattle.sched_text.proofs.fields.last_number.Goals as goal

pub returns-else-is_empty-clause-none : goal.returns-else-is_empty-clause-none
returns-else-is_empty-clause-none c =
    lacks_last c.args.most c.in_ok-number.number c.args.bytes.now c.in_ok-number.rest.now (omega (arith, c.ranges.most.fits))
    c.in_ok-number.ensures.some.0 c.in_ok-number.ensures.some.1 c.in_ok-number.ensures.some.2 (not_empty c.in_ok-number.rest.now c.if-is_empty.ensures)
