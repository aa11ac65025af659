use Rattle.std.proofs.Common.{◌≡◌, ap, subst, ◌∙◌}
use Rattle.std.proofs.lemmas.Result.{IfOk-weaker}
use Rattle.da_core.specs.Begins.{AreFew, StandsAt, place_at}
use Rattle.da_core.proofs.Stopping.{stands_there}
use Rattle.da_core.proofs.moves.place_of.Goals as goal

pub returns : goal.returns
returns c =
    let label = c.in-Some.point.now.label in
    IfOk-weaker c.place_at.result (λ spot. (spot ≡ place_at label c.len.result) × AreFew label c.len.result) (StandsAt c.args.code.now c.args.number)
    (λ spot both. stands_there c.args.code.now c.args.number c.in-Some.point.now c.in-Some-get.wait.now c.in-Some.ensures.value c.in-Some-get.ensures.value spot
    (both.0 ∙ ap (place_at label) c.len.ensures) (subst (AreFew label) c.len.ensures both.1)) c.place_at.ensures
