use Rattle.quant_norm.proofs.QuerySteps.{class_made}
use Rattle.std.proofs.Common.{◌∙◌, sym}
use Rattle.quant_norm.proofs.FullPlans.{plan_halted, class_over_run, class_over_handlers, class_over_rest}
use Rattle.quant_norm.proofs.classes.plan_of.Goals as goal

pub returns : goal.returns
returns c = sym (c.finish.ensures ∙ class_made c.args.class.now _ _ _ _ _ _ _ _ _ _ c.as_slice.ensures c.as_slice-2.ensures c.as_slice-queries.ensures c.in_ok-plan.ensures c.in_ok-ran.ensures c.in_ok-handled.ensures c.in_ok-put_asked.ensures)

pub returns-in_err-ran : goal.returns-in_err-ran
returns-in_err-ran c = plan_halted _ _ _ _ c.from_residual-in_err-ran.ensures.1 (λ e. class_over_run c.args.class.now _ _ _ c.as_slice.ensures c.as_slice-queries.ensures c.in_ok-plan.ensures (c.in_err-ran.ensures e))

pub returns-in_err-handled : goal.returns-in_err-handled
returns-in_err-handled c = plan_halted _ _ _ _ c.from_residual-in_err-handled.ensures.1 (λ e. class_over_handlers c.args.class.now _ _ _ _ _ _ c.as_slice.ensures c.as_slice-2.ensures c.as_slice-queries.ensures c.in_ok-plan.ensures c.in_ok-ran.ensures (c.in_err-handled.ensures e))

pub returns-in_err-put_asked : goal.returns-in_err-put_asked
returns-in_err-put_asked c = plan_halted _ _ _ _ c.from_residual-in_err-put_asked.ensures.1 (λ e. class_over_rest c.args.class.now _ _ _ _ _ _ _ _ c.as_slice.ensures c.as_slice-2.ensures c.as_slice-queries.ensures c.in_ok-plan.ensures c.in_ok-ran.ensures c.in_ok-handled.ensures (c.in_err-put_asked.ensures e))
