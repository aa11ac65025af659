use Rattle.std.specs.Prelude.{None, Some}
use Rattle.std.proofs.Common.{ap, ◌∙◌}
use Rattle.delta_rules.specs.Resting.{nothing_in}
use Rattle.delta_rules.proofs.RestLaws.{lent_change}
use Rattle.delta_rules.proofs.resting.rests.Goals as goal

pub returns-in-Some : goal.returns-in-Some
returns-in-Some c = c.is_nothing.ensures ∙ ap nothing_in (lent_change c.args.changes.now c.args.j (Some c.in-Some.change) c.in-Some.ensures.lookup)

pub returns-in-None : goal.returns-in-None
returns-in-None c = ap nothing_in (lent_change c.args.changes.now c.args.j None c.in-None.ensures.lookup)
