use Rattle.std.proofs.Common.{sym, subst, arith}
use Rattle.std.specs.Prelude.{◌≡◌, ℕ, List, Result, Ok, Err, IsErrAnd}
use Rattle.da_lang.specs.declared.event.Action.{Action}
use Rattle.trace_page.specs.declared.trace.TraceFault.{TraceFault}
use Rattle.trace_page.specs.Steps.{IsRead}
use Rattle.trace_page.proofs.TraceLemmas.{Came, came_first, came_next, read_fault, read_whole}
use Rattle.trace_page.proofs.trace.read_actions.Goals as goal

pub lines-init : goal.lines-init
lines-init c = record {
  came = subst (λ actions. Came c.args.text.now c.args.text.now actions 1) (sym c.new-actions.ensures) (came_first c.args.text.now);
  few = omega arith;
}

pub lines-preserved : goal.lines-preserved
lines-preserved c = record {
  came = came_next c.args.text.now c.lines.rest.now c.split_line.result.1.now c.split_line.result.0.now c.lines.actions c.read_line.new.actions c.lines.number c.lines.invariant.came c.split_line.ensures.lines c.in_ok-read_line.ensures.ok;
  few = omega arith;
}

-- the fault of a line is handed on
handed_on : (text : List ℕ) (fault : TraceFault) (result : Result (List Action) TraceFault) → IsErrAnd result (λ e. e ≡ fault) → IsRead text (Err fault) → IsRead text result
handed_on text fault (Ok actions) same read = absurd same
handed_on text fault (Err e) same read = subst (λ x. IsRead text (Err x)) (sym same) read

pub returns-in_err-read_line : goal.returns-in_err-read_line
returns-in_err-read_line c =
    handed_on c.args.text.now c.in_err-read_line.field-0.0 c.from_residual.result c.from_residual.ensures.1
    (read_fault c.args.text.now c.lines.rest.now c.split_line.result.1.now c.split_line.result.0.now c.lines.actions c.lines.number c.in_err-read_line.field-0.0 c.requires c.lines.invariant.came c.split_line.ensures.lines c.in_err-read_line.ensures.err)

pub returns : goal.returns
returns c = read_whole c.args.text.now c.lines.rest.now c.lines.actions c.lines.number c.requires c.lines.invariant.came (omega (arith, c.lines-test.false))
