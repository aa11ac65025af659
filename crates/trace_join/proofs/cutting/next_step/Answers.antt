-- What the step told decides.
use Rattle.std.proofs.Common.{ap, length, sym, ◌∙◌}
use Rattle.da_core.specs.StandsFor.{StandsFor, program_of}
use Rattle.trace_join.proofs.NextLaws.{goes_on, goes_shorter, stops_before, stops_after}
use Rattle.trace_join.proofs.cutting.next_step.Goals as goal

pub returns-in_default-2-clause-step : goal.returns-in_default-2-clause-step
returns-in_default-2-clause-step c = λ w stands.
    stops_before (program_of c.args.core.now) w c.args.trace.now c.in-Some.asked.now c.in-Some.ensures.value
    (StandsFor c.make_step.new.core) c.new-told.result c.make_step.new.told ((rw c.in_default-2.is at c.in_ok-times_out.ensures.step) w stands)

pub returns-in-None-clause-step : goal.returns-in-None-clause-step
returns-in-None-clause-step c = λ w stands.
    stops_after (program_of c.args.core.now) w c.args.trace.now c.in-Some.asked.now c.in-Some.ensures.value
    (StandsFor c.make_step.new.core) c.new-told.result c.make_step.new.told c.as_slice.result.now c.in-Some-2.times_out c.new-told.ensures c.as_slice.ensures
    ((rw c.in-Some-2.is at c.in_ok-times_out.ensures.step) w stands) c.in-None.ensures

pub returns-clause-shorter : goal.returns-clause-shorter
returns-clause-shorter c =
    goes_shorter (program_of c.args.core.now) c.requires.stands.0 c.args.trace.now c.in-Some.asked.now c.in-Some.ensures.value
    (StandsFor c.make_step.new.core) c.new-told.result c.make_step.new.told c.as_slice.result.now c.in-Some-2.times_out c.new-told.ensures c.as_slice.ensures
    ((rw c.in-Some-2.is at c.in_ok-times_out.ensures.step) c.requires.stands.0 c.requires.stands.1) c.in-Some-behind.rest.now c.in-Some-behind.ensures

pub returns-clause-step : goal.returns-clause-step
returns-clause-step c = λ w stands.
    goes_on (program_of c.args.core.now) w c.args.trace.now c.in-Some.asked.now c.in-Some.ensures.value
    (StandsFor c.make_step.new.core) c.new-told.result c.make_step.new.told c.as_slice.result.now c.in-Some-2.times_out c.new-told.ensures c.as_slice.ensures
    ((rw c.in-Some-2.is at c.in_ok-times_out.ensures.step) w stands)
    c.len-size.result c.in-Some-behind.rest.now (c.len-size.ensures ∙ ap length (sym c.as_slice.ensures)) c.in-Some-behind.ensures
