use Rattle.std.proofs.Common.{◌∙◌, ap, inl, refl, subst}
use Rattle.std.specs.Prelude.{Err}
use Rattle.da_outside.specs.Outside.{Appends, AppendsPrefix}
use Rattle.trace_page.specs.Outcome.{IsPageOf}
use Rattle.trace_page.specs.declared.outcome.DrawOutcome.TheVariants.{BadLine}
use Rattle.trace_page.proofs.TraceLemmas.{is_trace, not_bad, one_bad_line}
use Rattle.trace_page.proofs.drawing.draw.Goals as goal

pub returns-in-Ok-write_all-clause-says : goal.returns-in-Ok-write_all-clause-says
returns-in-Ok-write_all-clause-says g c = is_trace c.args.text.now _ c.in-Ok.ensures.1

pub returns-in-Err-Failed-clause-says : goal.returns-in-Err-Failed-clause-says
returns-in-Err-Failed-clause-says g c = is_trace c.args.text.now _ c.in-Ok.ensures.1

pub returns-in-Ok-write_all-clause-only_bad : goal.returns-in-Ok-write_all-clause-only_bad
returns-in-Ok-write_all-clause-only_bad g c n bad = absurd (not_bad c.args.text.now n (is_trace c.args.text.now _ c.in-Ok.ensures.1) bad)

pub returns-in-Err-Failed-clause-only_bad : goal.returns-in-Err-Failed-clause-only_bad
returns-in-Err-Failed-clause-only_bad g c n bad = absurd (not_bad c.args.text.now n (is_trace c.args.text.now _ c.in-Ok.ensures.1) bad)

pub returns-in-Err-BadLine-clause-only_bad : goal.returns-in-Err-BadLine-clause-only_bad
returns-in-Err-BadLine-clause-only_bad g c n bad = inl (ap BadLine (one_bad_line c.args.text.now c.in-Err-BadLine.number n (subst (λ fault. IsPageOf c.args.text.now (Err fault)) c.in-Err-BadLine.field-0-is c.in-Err-BadLine.ensures) bad))

pub returns-in-Ok-write_all-clause-drawn : goal.returns-in-Ok-write_all-clause-drawn
returns-in-Ok-write_all-clause-drawn g c = (
  c.in-Ok.ensures.0,
  c.in-Ok.ensures.1,
  subst (Appends (g.K.Sink.taken c.args.sink.now) (g.K.Sink.taken c.write_all.new.out)) (c.as_slice.ensures ∙ c.in-Ok.ensures.2) c.in-Ok-write_all.ensures.ok,
)

pub returns-in-Err-Failed-clause-drawn : goal.returns-in-Err-Failed-clause-drawn
returns-in-Err-Failed-clause-drawn g c = (
  c.in-Ok.ensures.0,
  c.in-Ok.ensures.1,
  subst (AppendsPrefix (g.K.Sink.taken c.args.sink.now) (g.K.Sink.taken c.write_all.new.out)) (c.as_slice.ensures ∙ c.in-Ok.ensures.2) c.in-Err-Failed.ensures.prefix,
)

pub returns-clause-drawn : goal.returns-clause-drawn
returns-clause-drawn g c = inl refl
