use Rattle.std.proofs.Common.{◌≡◌}
use Rattle.std.proofs.lemmas.Result.{IfOk-weaker}
use Rattle.da_lang.specs.Queries.{shown_set}
use Rattle.da_lang.specs.World.{Data}
use Rattle.delta_rules.specs.Keeping.{Sees}
use Rattle.delta_rules.specs.Told.{set_listed}
use Rattle.da_core.specs.Known.{Each}
use Rattle.da_core.proofs.Asking.{set_told}
use Rattle.da_core.proofs.KnownLaws.{laid_out}
use Rattle.da_core.proofs.answers.listed.Goals as goal

pub listed-requires : goal.listed-requires
listed-requires c = laid_out c.args.known.now c.requires

pub returns : goal.returns
returns c =
    IfOk-weaker c.listed.result (λ set. (e : Data) → Sees c.args.known.now.answers c.args.known.now.pool c.args.known.now.stored.now c.args.known.now.plan.now.nodes e → set ≡ set_listed e c.args.known.now.plan.now c.args.q)
    (λ set. Each c.args.known.now (λ p class d. set ≡ shown_set class.queries c.args.q d))
    (λ set told p class d knows. set_told c.args.known.now p class d knows c.args.q set told) c.listed.ensures
