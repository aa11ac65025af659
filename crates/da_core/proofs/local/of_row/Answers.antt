use Rattle.std.proofs.Common.{List, ap}
use Rattle.da_values.specs.declared.val.Val.{Val}
use Rattle.da_values.specs.declared.val.Val.TheVariants.{Tuple}
use Rattle.da_core.proofs.local.of_row.Goals as goal

pub returns : goal.returns
returns c = ap (λ (parts : List Val). Tuple parts) c.in_ok-parts.ensures
