use Rattle.std.proofs.Common.{[], ◌∷◌, ◌++◌, ◌∙◌, ap}
use Rattle.std.proofs.lemmas.Result.{on_ok_weaker}
use Rattle.std.specs.Prelude.{codes}
use Rattle.da_lang.specs.World.{at_number}
use Rattle.run_page.specs.Cells.{cell, line_text}
use Rattle.run_page.proofs.CellLemmas.{placed_as}
use Rattle.run_page.proofs.cells.add_place.Goals as goal

pub returns : goal.returns
returns c =
    on_ok_weaker c.add_cell-2.result
    (λ adds s stands.
    placed_as (at_number s.worlds c.args.p) c.stands_word.result.now (line_text c.args.line) c.args.cells.now c.add_cell.new.cells c.add_cell-2.new.cells (c.stands_word.ensures s stands) c.in_ok-add_cell.ensures
    (adds
    ∙ ap (λ text. c.add_cell.new.cells ++ cell (codes "line") text ∷ []) (c.as_slice.ensures ∙ c.in_ok-put_line.ensures ∙ ap (λ before. before ++ line_text c.args.line) c.new-text.ensures))) c.add_cell-2.ensures
