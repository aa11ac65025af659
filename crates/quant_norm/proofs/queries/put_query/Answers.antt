use Rattle.std.proofs.Common.{◌≡◌, subst}
use Rattle.query_plan.specs.declared.plan.Plan.{Plan}
use Rattle.query_plan.specs.Questions.{with_query}
use Rattle.quant_norm.specs.Making.{Over}
use Rattle.quant_norm.proofs.FullPlans.{plan_halted}
use Rattle.quant_norm.proofs.PrintLaws.{plan_with, query_put}
use Rattle.quant_norm.proofs.queries.put_query.Goals as goal

pub returns-in_err-told : goal.returns-in_err-told
returns-in_err-told c =
    plan_halted _ _ _ _ c.from_residual.ensures.1 (λ full. subst (λ (plan : Plan). Over (with_query plan c.args.query.now).nodes) c.plan.view_is (c.in_err-told.ensures full))

pub returns : goal.returns
returns c =
    subst (λ (plan : Plan). with_query plan c.args.query.now ≡ plan_with c.query_node.new.nodes c.push.new.self c.plan.inside.flags) c.plan.view_is
    (query_put c.plan.inside.nodes c.query_node.new.nodes c.plan.inside.queries c.push.new.self c.plan.inside.flags c.args.query.now c.in_ok-told.told c.in_ok-told.ensures c.in_ok-push.ensures.ok)
