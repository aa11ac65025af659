use Rattle.sched_text.proofs.ValueLaws.{lacks_output, lacks_value}
use Rattle.sched_text.proofs.reading.read_out.Goals as goal

pub returns-in_err-v-in-Some-clause-unread : goal.returns-in_err-v-in-Some-clause-unread
returns-in_err-v-in-Some-clause-unread c wanted =
    lacks_output c.in-Some.p c.args.rest.now c.in-Some.rest.now c.in-Some.ensures.some.0 c.in-Some.ensures.some.1 c.in-Some.ensures.some.2
    (lacks_value c.in-Some.rest.now c.last_value.result c.from_residual.result c.in_err-v-in-Some.field-0.0 c.last_value.ensures.only c.in_err-v-in-Some.was c.from_residual.ensures.1 wanted)
