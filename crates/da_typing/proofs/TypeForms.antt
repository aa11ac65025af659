-- What the forms of types are made of, and which are ordered.
use Rattle.std.specs.Prelude.{◌≡◌, Bool, List}
use Rattle.std.specs.List.{list_all}
use Rattle.std.proofs.Common.{◌∙◌}
use Rattle.std.proofs.lemmas.List.Folds.{list_all-map}
use Rattle.da_lang.specs.declared.ty.Ty.{Ty}
use Rattle.da_lang.specs.declared.ty.Ty.TheVariants as t
use Rattle.da_lang.specs.Types.{ordered}
use Rattle.da_lang.proofs.typing.TypesAt.{ordered-Int, ordered-Bool, ordered-Text, ordered-Proc, ordered-Tuple, ordered-Set}

pub ruleset type_forms = (t.outs-Int, t.outs-Bool, t.outs-Text, t.outs-Proc, t.outs-Tuple, t.outs-Set)

pub ordered-parts : (parts : List Ty) → ordered (t.Tuple parts) ≡ list_all ordered parts
ordered-parts parts = ordered-Tuple parts ∙ list_all-map (λ (b : Bool). b) ordered parts

pub ruleset ordered_rules = (ordered-Int, ordered-Bool, ordered-Text, ordered-Proc, ordered-parts, ordered-Set)
