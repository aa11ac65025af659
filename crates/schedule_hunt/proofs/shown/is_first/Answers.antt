use Rattle.std.proofs.Common.{◌∙◌, sym}
use Rattle.da_values.specs.Keys.{same_value-is}
use Rattle.da_values.specs.Value.{val_of}
use Rattle.schedule_hunt.proofs.ShownLaws.{first_is, first_value}
use Rattle.schedule_hunt.proofs.shown.is_first.Goals as goal

pub returns-in-len1-up : goal.returns-in-len1-up
returns-in-len1-up c = first_is _ _ _ (first_value _ _ _ c.in-len1-up.len_at_least c.first-item.is) _ c.eq.ensures
