use Rattle.std.proofs.Common.{[], ◌∷◌, ◌++◌, ◌∙◌, ap}
use Rattle.std.proofs.lemmas.Result.{on_ok_weaker}
use Rattle.std.specs.Prelude.{codes, decimal}
use Rattle.run_page.specs.Cells.{cell}
use Rattle.run_page.proofs.cells.add_rows.Goals as goal

pub returns : goal.returns
returns c = on_ok_weaker c.add_numbered.result (λ adds. adds ∙ ap (λ text. c.args.cells.now ++ cell (codes "query " ++ decimal c.args.n) text ∷ []) c.in_ok-text.ensures) c.add_numbered.ensures
