use Rattle.std.proofs.Common.{refl}
use Rattle.da_values.specs.declared.val.Val.TheVariants.{Set}
use Rattle.da_values.specs.declared.value.Value.TheVariants as kept
use Rattle.sched_text.specs.ActionReading.{value_after}
use Rattle.sched_text.proofs.FieldLaws.{after_query}
use Rattle.sched_text.proofs.ValueLaws.{is_value, lacks_value}
use Rattle.sched_text.proofs.reading.read_answer.Goals as goal

pub returns-in_err-rows-in-Some-clause-unread : goal.returns-in_err-rows-in-Some-clause-unread
returns-in_err-rows-in-Some-clause-unread c wanted p n rows fits_p fits_n shown same =
    lacks_value c.in-Some.rest.now c.last_value.result c.from_residual.result c.in_err-rows-in-Some.field-0.0 c.last_value.ensures.only c.in_err-rows-in-Some.was c.from_residual.ensures.1 wanted (Set rows) shown
    (after_query c.in-Some.p c.in-Some.n p n c.args.rest.now c.in-Some.rest.now (value_after (Set rows)) c.in-Some.ensures.some.0 c.in-Some.ensures.some.1 c.in-Some.ensures.some.2 c.in-Some.ensures.some.3 fits_p fits_n refl same)

pub returns-in-Some : goal.returns-in-Some
returns-in-Some c = record {
  ok = tt;
  unread = λ wanted p n rows fits_p fits_n shown same.
      c.in_default.not-Set rows (is_value c.in-Some.rest.now c.last_value.result c.in_ok-rows-in-Some.field-0 (kept.Set rows) c.last_value.ensures.only c.in_ok-rows-in-Some.was shown
      (after_query c.in-Some.p c.in-Some.n p n c.args.rest.now c.in-Some.rest.now (value_after (Set rows)) c.in-Some.ensures.some.0 c.in-Some.ensures.some.1 c.in-Some.ensures.some.2 c.in-Some.ensures.some.3 fits_p fits_n refl same));
}
