use Rattle.std.specs.Prelude.{option_map}
use Rattle.std.proofs.Common.{ap, ◌∙◌}
use Rattle.row_pool.specs.Pool.{val_at}
use Rattle.delta_rules.proofs.ElementIds.{number_value}
use Rattle.delta_rules.proofs.slots.slot_id.Goals as goal

pub returns : goal.returns
returns c pool = ap (option_map (val_at pool)) c.held_id.ensures ∙ number_value pool c.args.slots.now.ids c.args.s
