use Rattle.std.proofs.Common.{◌∙◌, ap, sym}
use Rattle.da_core.specs.Begins.{begin_at}
use Rattle.da_core.proofs.moves.begin_in.Goals as goal

pub returns-in-Await : goal.returns-in-Await
returns-in-Await c = λ p class d knows.
    c.begin_at_await.ensures p class d knows ∙ sym (ap (λ stands. begin_at class d c.args.code.now c.args.at stands c.args.k) c.in-Await.is)
