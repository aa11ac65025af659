use Rattle.std.proofs.Common.{ap, ◌∙◌}
use Rattle.serde_json.specs.View.{members_view}
use Rattle.serde_json.proofs.Views.{view-Object}
use Rattle.da_commands.specs.PlanJson.{numbers}
use Rattle.da_commands.proofs.PlanLemmas.{made_named}
use Rattle.da_commands.proofs.plans.named_plan.Goals as goal

pub returns : goal.returns
returns c =
    view-Object c.put_texts-3.new.members
    ∙ made_named c.args.name.now c.args.plan.now _ _ _ _ _ _ _ _ _ _ _ (ap members_view c.new-members.ensures.empty)
    c.in_ok-text.ensures c.in_ok-put_member.ensures
    (c.in_ok-flags.ensures ∙ ap numbers c.as_slice.ensures) c.in_ok-put_member-2.ensures
    (c.as_slice-2.ensures ∙ c.in_ok-live.ensures) c.in_ok-put_texts.ensures
    (c.as_slice-3.ensures ∙ c.in_ok-nodes.ensures) c.in_ok-put_texts-2.ensures
    (c.as_slice-4.ensures ∙ c.in_ok-queries.ensures) c.in_ok-put_texts-3.ensures
