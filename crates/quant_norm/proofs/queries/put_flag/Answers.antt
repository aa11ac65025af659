use Rattle.std.proofs.Common.{◌≡◌, subst}
use Rattle.query_plan.specs.declared.plan.Plan.{Plan}
use Rattle.query_plan.specs.Questions.{with_flag}
use Rattle.quant_norm.specs.Making.{Over}
use Rattle.quant_norm.proofs.QuerySteps.{flag_put}
use Rattle.quant_norm.proofs.FullPlans.{plan_halted, flag_over}
use Rattle.quant_norm.proofs.PrintLaws.{plan_with}
use Rattle.quant_norm.proofs.queries.put_flag.Goals as goal

pub returns : goal.returns
returns c =
    let before = plan_with c.plan.inside.nodes c.plan.inside.queries c.plan.inside.flags in
    subst (λ (plan : Plan). with_flag plan c.args.cond.now ≡ plan_with c.norm_cond.new.nodes c.plan.inside.queries c.push.new.self) c.plan.view_is
    (flag_put before c.args.cond.now _ _ _ _ c.root_place-root.ensures c.in_ok-flag.ensures c.in_ok-push.ensures.ok)

pub returns-in_err-flag : goal.returns-in_err-flag
returns-in_err-flag c =
    let before = plan_with c.plan.inside.nodes c.plan.inside.queries c.plan.inside.flags in
    plan_halted _ _ _ _ c.from_residual.ensures.1
    (λ full. subst (λ (plan : Plan). Over (with_flag plan c.args.cond.now).nodes) c.plan.view_is (flag_over before _ _ c.root_place-root.ensures (c.in_err-flag.ensures full)))
