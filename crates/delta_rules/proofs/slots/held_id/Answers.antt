use Rattle.delta_rules.proofs.ElementIds.{number_read}
use Rattle.delta_rules.proofs.slots.held_id.Goals as goal

pub returns-in-Some : goal.returns-in-Some
returns-in-Some c = number_read c.args.slots.now.ids c.args.s c.in-Some.at c.from.result _ c.in-Some.ensures c.from.ensures c.get.ensures.value
