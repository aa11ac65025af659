use Rattle.std.proofs.Common.{◌∙◌, ap, sym}
use Rattle.std.specs.Option.{option_copied, unwrap_or}
use Rattle.da_limits.specs.Extents.{nothing}
use Rattle.da_limits.proofs.CopiedAt.{copied-found}
use Rattle.da_limits.proofs.statements.copied.Goals as goal

pub returns-in-None-get : goal.returns-in-None-get
returns-in-None-get c =
    c.nothing-in-None-get.ensures
    ∙ sym (copied-found _ _ _ _ _ c.number.ensures.number c.in-Some.is c.get.ensures.value ∙ ap (λ found. unwrap_or (option_copied found) nothing) c.in-None-get.is)

pub returns-in-Some-get : goal.returns-in-Some-get
returns-in-Some-get c = sym (copied-found _ _ _ _ _ c.number.ensures.number c.in-Some.is c.get.ensures.value ∙ ap (λ found. unwrap_or (option_copied found) nothing) c.in-Some-get.is)
