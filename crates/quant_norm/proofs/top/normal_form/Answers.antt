use Rattle.std.proofs.Common.{subst}
use Rattle.query_plan.specs.declared.plan.Plan.{Plan}
use Rattle.query_plan.specs.Nodes.{IsPlan}
use Rattle.query_plan.specs.PlainNodes.{PlainNodes}
use Rattle.query_plan.specs.Told.{IsPlanOf}
use Rattle.quant_norm.proofs.ClassLaw.{class_law}
use Rattle.quant_norm.proofs.PlainLaw.{class_plain}
use Rattle.quant_norm.proofs.TopSteps.{made_out}
use Rattle.quant_norm.proofs.top.normal_form.Goals as goal

pub returns-else-len-gt-MOST_NODES-clause-told : goal.returns-else-len-gt-MOST_NODES-clause-told
returns-else-len-gt-MOST_NODES-clause-told c = subst (IsPlanOf c.args.class.now) (made_out _ _ _ c.in-Ok.is c.plan_of-made.ensures) (class_law c.args.class.now)

pub returns-else-len-gt-MOST_NODES-clause-plan : goal.returns-else-len-gt-MOST_NODES-clause-plan
returns-else-len-gt-MOST_NODES-clause-plan c = subst (λ (plan : Plan). IsPlan plan.nodes) (made_out _ _ _ c.in-Ok.is c.plan_of-made.ensures) (class_law c.args.class.now).lower

pub returns-else-len-gt-MOST_NODES-clause-plain : goal.returns-else-len-gt-MOST_NODES-clause-plain
returns-else-len-gt-MOST_NODES-clause-plain c = subst (λ (plan : Plan). PlainNodes plan.nodes) (made_out _ _ _ c.in-Ok.is c.plan_of-made.ensures) (class_plain c.args.class.now)
