use Rattle.sched_text.proofs.FieldLaws.{lacks_message}
use Rattle.sched_text.proofs.ValueLaws.{lacks_value}
use Rattle.sched_text.proofs.reading.read_message.Goals as goal

pub returns-in_err-last_value-in-Some-clause-unread : goal.returns-in_err-last_value-in-Some-clause-unread
returns-in_err-last_value-in-Some-clause-unread c wanted =
    lacks_message c.in-Some.route.first c.in-Some.route.second c.in-Some.route.time c.args.rest.now c.in-Some.rest.now
    c.in-Some.ensures.some.0 c.in-Some.ensures.some.1 c.in-Some.ensures.some.2
    (lacks_value c.in-Some.rest.now c.last_value.result c.from_residual.result c.in_err-last_value-in-Some.field-0.0 c.last_value.ensures.only c.in_err-last_value-in-Some.was c.from_residual.ensures.1 wanted)
