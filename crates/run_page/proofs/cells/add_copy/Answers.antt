use Rattle.std.proofs.Common.{[], ◌∷◌, ◌++◌, ◌∙◌, ap}
use Rattle.std.proofs.lemmas.Result.{on_ok_weaker}
use Rattle.run_page.proofs.cells.add_copy.Goals as goal

pub returns : goal.returns
returns c = on_ok_weaker c.push.result (λ adds. adds ∙ ap (λ copy. c.args.list.now ++ copy ∷ []) c.in_ok-copy.ensures) c.push.ensures.ok
