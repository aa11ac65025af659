use Rattle.delta_rules.proofs.ElementIds.{on_any}
use Rattle.delta_rules.proofs.values.take_both.Goals as goal

pub returns-clause-values : goal.returns-clause-values
returns-clause-values c = on_any c.take_from.result _ c.take_value.ensures
