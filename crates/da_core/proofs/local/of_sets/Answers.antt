use Rattle.std.proofs.Common.{List, ap, map, ◌∙◌}
use Rattle.da_values.specs.declared.val.Val.{Val}
use Rattle.da_values.specs.declared.val.Val.TheVariants.{Tuple}
use Rattle.da_core.specs.LocalState.{rows_value}
use Rattle.da_core.proofs.local.of_sets.Goals as goal

pub returns : goal.returns
returns c = ap (λ (parts : List Val). Tuple parts) (c.in_ok-parts.ensures ∙ ap (λ (xs : List (List (List Val))). map rows_value xs) c.as_slice.ensures)
