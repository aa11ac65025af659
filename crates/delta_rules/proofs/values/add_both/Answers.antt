use Rattle.delta_rules.proofs.ElementIds.{on_any}
use Rattle.delta_rules.proofs.values.add_both.Goals as goal

pub returns-clause-values : goal.returns-clause-values
returns-clause-values c = on_any c.add_to.result _ c.in_ok-add_value.ensures
