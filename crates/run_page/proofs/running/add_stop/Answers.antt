use Rattle.std.proofs.Common.{[], ◌∷◌, ◌++◌, ◌∙◌, ap, refl}
use Rattle.run_page.proofs.running.add_stop.Goals as goal

pub returns : goal.returns
returns c = (refl, c.in_ok-push.ensures.ok ∙ ap (λ row. c.args.running.now.rows ++ row ∷ []) c.in_ok-stop.ensures)
