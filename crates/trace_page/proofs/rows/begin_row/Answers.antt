use Rattle.std.proofs.Common.{◌++◌, ◌∷◌, ◌∙◌, [], ap}
use Rattle.std.proofs.lemmas.Result.{on_ok_weaker}
use Rattle.std.specs.Prelude.{map}
use Rattle.trace_page.specs.PageText.{trace_row}
use Rattle.trace_page.specs.Rows.{rows_from}
use Rattle.trace_page.proofs.rows.begin_row.Goals as goal

pub returns : goal.returns
returns c =
    on_ok_weaker c.push.result
    (λ pushed left.
    ap (λ row. c.end_row.new.rows ++ map trace_row (rows_from left row)) (pushed ∙ ap (λ row. row ++ c.args.action ∷ []) c.end_row.ensures.row)
    ∙ ap (λ rows. rows ++ map trace_row (rows_from left (c.args.action ∷ []))) c.in_ok-end_row.ensures.rows) c.push.ensures.ok
