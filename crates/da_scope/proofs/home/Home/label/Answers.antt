use Rattle.std.specs.Prelude.{unwrap_or}
use Rattle.std.proofs.Common.{◌∙◌, ap, sym}
use Rattle.da_scope.proofs.LabelLaws.{label-at}
use Rattle.da_scope.proofs.home.Home.label.Goals as goal

pub returns-in-Some : goal.returns-in-Some
returns-in-Some c =
    let home = c.args.self.now in
    sym (label-at home.class.now home.labels c.args.name.now c.number_at.result home.has_numbers c.number_at.ensures ∙ ap (λ o. unwrap_or o 1) c.in-Some.is)

pub returns-in-None : goal.returns-in-None
returns-in-None c =
    let home = c.args.self.now in
    sym (label-at home.class.now home.labels c.args.name.now c.number_at.result home.has_numbers c.number_at.ensures ∙ ap (λ o. unwrap_or o 1) c.in-None.is)
