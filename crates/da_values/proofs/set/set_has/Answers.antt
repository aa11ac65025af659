use Rattle.std.proofs.Common.{◌∙◌}
use Rattle.da_values.specs.Value.{val_of}
use Rattle.da_values.proofs.SetVals.{tested}
use Rattle.da_values.proofs.set.set_has.Goals as goal

pub returns-clause-value : goal.returns-clause-value
returns-clause-value c = c.is_ok.ensures.value ∙ tested c.args.s.now c.as_slice.result.now (val_of c.args.v.now) c.place.result c.as_slice.ensures.items c.place.ensures
