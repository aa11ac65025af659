use Rattle.std.proofs.Common.{arith}
use Rattle.da_values.specs.Value.{val_of}
use Rattle.delta_rules.proofs.ValueLaws.{set_past}
use Rattle.delta_rules.proofs.values.set_at.Goals as goal

pub returns-then-place-len : goal.returns-then-place-len
returns-then-place-len c = set_past c.args.values.now c.args.place (val_of c.args.v) (omega (arith, c.len.ensures, c.if-place-len.true))
