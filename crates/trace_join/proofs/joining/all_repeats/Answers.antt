-- Trace by trace.
use Rattle.std.proofs.Common.{List, refl, subst}
use Rattle.std.proofs.lemmas.Option.{slice_get_read}
use Rattle.da_lang.specs.declared.event.Action.{Action}
use Rattle.trace_join.specs.Repeats.{TellRepeats}
use Rattle.trace_join.proofs.AllRepeatsLaws.{repeats_on}
use Rattle.trace_join.proofs.joining.all_repeats.Goals as goal

pub loop-trace-preserved : goal.loop-trace-preserved
loop-trace-preserved c =
    repeats_on c.args.traces.now c.loop-trace.all c.loop-trace.trace-index c.loop-trace.invariant _ _ c.trace-item.result _ refl c.in_ok-push.ensures.ok
    (slice_get_read c.args.traces.now _ c.loop-trace.trace-index c.trace-item.result refl c.loop-trace-test.true c.trace-item.is)
    (subst (λ (t : List Action). TellRepeats t c.in_ok-repeats_for.field-0) c.as_slice.ensures c.in_ok-repeats_for.ensures)
