use Rattle.std.proofs.Common.{◌≡◌, ℕ, List, sym, subst, arith}
use Rattle.std.specs.Prelude.{IsErrAnd, MatchResult, Result, Ok, Err}
use Rattle.da_lang.specs.declared.event.Action.{Action}
use Rattle.sched_text.specs.declared.trace.TraceFault.{TraceFault}
use Rattle.sched_text.specs.declared.trace.TraceFault.TheVariants.{Memory}
use Rattle.sched_text.specs.TraceReading.{IsRead}
use Rattle.sched_text.specs.TraceText.{SpellsTrace}
use Rattle.sched_text.proofs.TraceLaws.{only_fault}
use Rattle.sched_text.proofs.TraceLemmas.{came_next, read_fault, whole_only}
use Rattle.sched_text.proofs.trace.read_actions.Goals as goal

pub lines-preserved : goal.lines-preserved
lines-preserved c = record {
  came = came_next c.args.p c.args.text.now c.lines.rest.now c.split_bare_line.result.1.now c.split_bare_line.result.0.now c.lines.actions c.read_line.new.actions c.lines.number c.lines.invariant.came c.split_bare_line.ensures.lines c.in_ok-read_line.ensures.ok;
  few = omega (arith, c.lines.invariant.few, c.split_bare_line.ensures.shorter);
}

-- the fault of a line is handed on
handed_on : (p : ℕ) (text : List ℕ) (fault : TraceFault) (result : Result (List Action) TraceFault) → IsErrAnd result (λ e. e ≡ fault) → IsRead p text (Err fault) → IsRead p text result
handed_on p text fault (Ok actions) same read = absurd same
handed_on p text fault (Err e) same read = subst (λ x. IsRead p text (Err x)) (sym same) read

no_actions : (p : ℕ) (text : List ℕ) (result : Result (List Action) TraceFault) (fault : TraceFault) → IsErrAnd result (λ e. e ≡ fault) → IsRead p text result
    → (actions : List Action) → SpellsTrace p text actions → MatchResult result (λ found. found ≡ actions) (λ e. e ≡ Memory)
no_actions p text (Ok found) fault same read actions spelled = absurd same
no_actions p text (Err e) fault same read actions spelled = only_fault p text e actions read spelled

pub returns-in_err-read_line-clause-read : goal.returns-in_err-read_line-clause-read
returns-in_err-read_line-clause-read c =
    handed_on c.args.p c.args.text.now c.in_err-read_line.field-0.0 c.from_residual.result c.from_residual.ensures.1
    (read_fault c.args.p c.args.text.now c.lines.rest.now c.split_bare_line.result.1.now c.split_bare_line.result.0.now c.lines.actions c.lines.number c.in_err-read_line.field-0.0
    c.requires c.lines.invariant.came c.split_bare_line.ensures.lines c.in_err-read_line.ensures.err)

pub returns-in_err-read_line-clause-only : goal.returns-in_err-read_line-clause-only
returns-in_err-read_line-clause-only c =
    no_actions c.args.p c.args.text.now c.from_residual.result c.in_err-read_line.field-0.0 c.from_residual.ensures.1
    (handed_on c.args.p c.args.text.now c.in_err-read_line.field-0.0 c.from_residual.result c.from_residual.ensures.1
    (read_fault c.args.p c.args.text.now c.lines.rest.now c.split_bare_line.result.1.now c.split_bare_line.result.0.now c.lines.actions c.lines.number c.in_err-read_line.field-0.0
    c.requires c.lines.invariant.came c.split_bare_line.ensures.lines c.in_err-read_line.ensures.err))

pub returns-clause-only : goal.returns-clause-only
returns-clause-only c others spelled =
    whole_only c.args.p c.args.text.now c.lines.rest.now c.lines.actions others c.lines.number c.requires c.lines.invariant.came (omega (arith, c.lines-test.false)) spelled
