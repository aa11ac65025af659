use Rattle.std.proofs.Common.{◌≡◌}
use Rattle.std.proofs.lemmas.Result.{IfOk-weaker}
use Rattle.da_lang.specs.Queries.{query_value}
use Rattle.da_lang.specs.World.{Data}
use Rattle.da_values.specs.Value.{val_of}
use Rattle.delta_rules.specs.Keeping.{Sees}
use Rattle.delta_rules.specs.Told.{asked}
use Rattle.da_core.specs.Known.{Each}
use Rattle.da_core.proofs.Asking.{value_told}
use Rattle.da_core.proofs.answers.ask.Goals as goal

pub returns : goal.returns
returns c =
    IfOk-weaker c.ask.result (λ v. (e : Data) → Sees c.args.known.now.answers c.args.known.now.pool c.args.known.now.stored.now c.args.known.now.plan.now.nodes e → val_of v ≡ asked e c.args.known.now.plan.now c.args.q)
    (λ v. Each c.args.known.now (λ p class d. val_of v ≡ query_value class.queries c.args.q d))
    (λ v told p class d knows. value_told c.args.known.now p class d knows c.args.q (val_of v) told) c.ask.ensures
