use Rattle.std.proofs.Common.{ap, ◌∙◌}
use Rattle.std.specs.Prelude.{slice_set}
use Rattle.std.proofs.lemmas.List.{map-set}
use Rattle.da_values.specs.Value.{val_of, vals}
use Rattle.da_values.proofs.value.Row.replace.Goals as goal

pub returns-clause-put : goal.returns-clause-put
returns-clause-put c =
    ap vals c.replace.ensures.put ∙ map-set val_of c.self.inside.parts c.args.at c.args.part
    ∙ ap (λ vs. slice_set vs c.args.at (val_of c.args.part)) c.self.view_is
