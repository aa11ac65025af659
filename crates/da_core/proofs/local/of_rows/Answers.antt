use Rattle.std.proofs.Common.{List, ap, map, ◌∙◌}
use Rattle.da_values.specs.declared.val.Val.{Val}
use Rattle.da_values.specs.declared.val.Val.TheVariants.{Tuple}
use Rattle.da_core.proofs.local.of_rows.Goals as goal

pub returns : goal.returns
returns c = ap (λ (parts : List Val). Tuple parts) (c.in_ok-parts.ensures ∙ ap (λ (xs : List (List Val)). map Tuple xs) c.as_slice.ensures)
