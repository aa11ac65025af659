use Rattle.std.proofs.Common.{◌≡◌}
use Rattle.std.proofs.lemmas.Result.{IfOk-weaker}
use Rattle.da_lang.specs.Queries.{least_row}
use Rattle.da_lang.specs.World.{Data}
use Rattle.delta_rules.specs.Keeping.{Sees}
use Rattle.delta_rules.specs.Told.{least_found}
use Rattle.da_core.specs.Known.{Each}
use Rattle.da_core.proofs.Asking.{row_told}
use Rattle.da_core.proofs.answers.found.Goals as goal

pub returns : goal.returns
returns c =
    IfOk-weaker c.found.result (λ row. (e : Data) → Sees c.args.known.now.answers c.args.known.now.pool c.args.known.now.stored.now c.args.known.now.plan.now.nodes e → row ≡ least_found e c.args.known.now.plan.now c.args.q)
    (λ row. Each c.args.known.now (λ p class d. row ≡ least_row class.queries c.args.q d))
    (λ row told p class d knows. row_told c.args.known.now p class d knows c.args.q row told) c.found.ensures
