use Rattle.std.proofs.Common.{◌≡◌, ◌∙◌}
use Rattle.std.proofs.lemmas.Result.{IfOk-weaker}
use Rattle.da_core.specs.Known.{Each}
use Rattle.da_core.proofs.answers.slot_values.Goals as goal

pub returns : goal.returns
returns c =
    IfOk-weaker c.copy_row.result (λ values. values ≡ c.slot_values.result.now) (λ values. Each c.args.known.now (λ p class d. values ≡ d.slots))
    (λ values is p class d knows. is ∙ c.slot_values.ensures ∙ knows.keeps.values) c.copy_row.ensures
