use Rattle.std.proofs.Common.{[], ◌∷◌, ◌++◌, ◌∙◌, ap, sym}
use Rattle.std.proofs.lemmas.Result.{on_ok_weaker}
use Rattle.std.specs.Prelude.{codes, decimal}
use Rattle.da_values.specs.Text.{value_text}
use Rattle.da_values.specs.declared.val.Val.TheVariants.{Set}
use Rattle.run_page.specs.Cells.{answer_cell, cell}
use Rattle.run_page.proofs.CellLemmas.{answer_others}
use Rattle.run_page.proofs.cells.add_answer.Goals as goal

pub returns-in-Answer : goal.returns-in-Answer
returns-in-Answer c =
    on_ok_weaker c.add_rows.result
    (λ adds.
    adds ∙ ap (λ rows. c.args.cells.now ++ cell (codes "query " ++ decimal c.in-Answer.n) (value_text (Set rows)) ∷ []) c.as_slice.ensures.items
    ∙ ap (λ a. c.args.cells.now ++ answer_cell a ∷ []) (sym c.in-Answer.is)) c.add_rows.ensures

pub returns-in_default : goal.returns-in_default
returns-in_default c =
    on_ok_weaker c.add_cell.result (λ adds. adds ∙ ap (λ made. c.args.cells.now ++ made ∷ []) (answer_others c.args.answer.now c.in_default.not-Answer)) c.add_cell.ensures
