use Rattle.std.proofs.Common.{sym, ◌∙◌}
use Rattle.da_values.specs.Keys.{same_value-is}
use Rattle.da_values.specs.Value.{val_of}
use Rattle.da_core.proofs.local.is_number.Goals as goal

pub returns : goal.returns
returns c = λ is. (same_value-is (val_of c.args.value.now) (val_of c.number-wanted.result)).0 (sym c.eq.ensures ∙ is) ∙ c.number-wanted.ensures
