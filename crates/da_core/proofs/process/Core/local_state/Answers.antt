use Rattle.std.proofs.Common.{List, ap}
use Rattle.da_values.specs.declared.val.Val.{Val}
use Rattle.da_values.specs.declared.val.Val.TheVariants.{Tuple}
use Rattle.da_core.proofs.LocalParts.{all_parts}
use Rattle.da_core.proofs.process.Core.local_state.Goals as goal

pub returns : goal.returns
returns c = ap (λ (parts : List Val). Tuple parts) (all_parts _ _ _ _ _ _ _ c.new-parts.ensures c.in_ok-put_place.ensures c.in_ok-put_run.ensures c.in_ok-put_answers.ensures)
