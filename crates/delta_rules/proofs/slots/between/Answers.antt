use Rattle.std.proofs.Common.{ap, subst, sym, ◌∙◌}
use Rattle.da_values.specs.Sets.{Distinct}
use Rattle.delta_rules.specs.Passing.{lacking}
use Rattle.delta_rules.proofs.UpdateCounts.{lacking_once}
use Rattle.delta_rules.proofs.slots.between.Goals as goal

pub returns-clause-once : goal.returns-clause-once
returns-clause-once c = (
  subst Distinct (sym (c.in_ok-came.ensures ∙ ap (λ z. lacking z c.args.old.now) c.as_slice.ensures.items)) (lacking_once c.args.new.now c.args.old.now c.as_slice.ensures.ascends),
  subst Distinct (sym (c.in_ok-left.ensures ∙ ap (λ z. lacking z c.args.new.now) c.as_slice-2.ensures.items)) (lacking_once c.args.old.now c.args.new.now c.as_slice-2.ensures.ascends),
)
