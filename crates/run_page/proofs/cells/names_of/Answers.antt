use Rattle.std.proofs.Common.{[], ◌∙◌, ap}
use Rattle.std.specs.Prelude.{unwrap_or}
use Rattle.run_page.proofs.cells.names_of.Goals as goal

pub returns-in-Some : goal.returns-in-Some
returns-in-Some c = c.as_slice.ensures ∙ ap (λ found. unwrap_or found []) c.in-Some.ensures

pub returns-in-None : goal.returns-in-None
returns-in-None c = ap (λ found. unwrap_or found []) c.in-None.ensures
