-- The text of a set.
use Rattle.std.proofs.Common.{◌≡◌, List, ◌++◌, map}
use Rattle.std.specs.Prelude.{codes}
use Rattle.da_values.specs.declared.val.Val.{Val}
use Rattle.da_values.specs.declared.val.Val.TheVariants.{Set}
use Rattle.da_values.specs.declared.value.Value.TheVariants as kept
use Rattle.da_values.specs.Text.{separated, value_text}
use Rattle.da_values.proofs.TextLemmas.{value_text_of}

pub set_text : (elements : List Val) → value_text (Set elements) ≡ codes "{" ++ separated (map value_text elements) ++ codes "}"
set_text elements = value_text_of (kept.Set elements)
