use Rattle.std.proofs.Common.{sym, subst, arith}
use Rattle.std.specs.Prelude.{◌≡◌, ℕ, List, Result, Ok, Err, IsErrAnd}
use Rattle.da_lang.specs.declared.event.Event.{Event}
use Rattle.sched_text.specs.Reading.{IsRead}
use Rattle.sched_text.specs.declared.schedule.SchedFault.{SchedFault}
use Rattle.sched_text.proofs.ScheduleLemmas.{Came, came_first, came_next, read_fault}
use Rattle.sched_text.proofs.schedule.read_events.Goals as goal

pub lines-init : goal.lines-init
lines-init c = record {
  came = subst (λ events. Came c.args.text.now c.args.text.now events 1) (sym c.new-events.ensures) (came_first c.args.text.now);
  few = omega arith;
}

pub lines-preserved : goal.lines-preserved
lines-preserved c = record {
  came = came_next c.args.text.now c.lines.rest.now c.split_line.result.1.now c.split_line.result.0.now c.lines.events c.read_line.new.events c.lines.number c.lines.invariant.came c.split_line.ensures.lines c.in_ok-read_line.ensures.ok;
  few = omega arith;
}

-- the fault of a line is handed on
handed_on : (text : List ℕ) (fault : SchedFault) (result : Result (List Event) SchedFault) → IsErrAnd result (λ e. e ≡ fault) → IsRead text (Err fault) → IsRead text result
handed_on text fault (Ok events) same read = absurd same
handed_on text fault (Err e) same read = subst (λ x. IsRead text (Err x)) (sym same) read

pub returns-in_err-read_line : goal.returns-in_err-read_line
returns-in_err-read_line c =
    handed_on c.args.text.now c.in_err-read_line.field-0.0 c.from_residual.result c.from_residual.ensures.1
    (read_fault c.args.text.now c.lines.rest.now c.split_line.result.1.now c.split_line.result.0.now c.lines.events c.lines.number c.in_err-read_line.field-0.0 c.requires c.lines.invariant.came c.split_line.ensures.lines c.in_err-read_line.ensures.err)
