use Rattle.std.proofs.Common.{◌++◌, ◌∙◌, ap, sym}
use Rattle.std.proofs.lemmas.Result.{on_ok_weaker}
use Rattle.std.specs.Prelude.{map}
use Rattle.trace_page.specs.PageText.{trace_row}
use Rattle.trace_page.specs.Rows.{joins, rows_from}
use Rattle.trace_page.proofs.RowLemmas.{begun, joined}
use Rattle.trace_page.proofs.rows.add_action.Goals as goal

pub returns-then-joins : goal.returns-then-joins
returns-then-joins c =
    on_ok_weaker c.push.result
    (λ pushed left.
    ap (λ row. c.args.rows.now ++ map trace_row (rows_from left row)) pushed
    ∙ joined c.args.rows.now c.args.row.now left c.args.action (ap (λ row. joins row c.args.action) (sym c.as_slice.ensures) ∙ sym c.joins.ensures ∙ c.if-joins.true)) c.push.ensures.ok

pub returns : goal.returns
returns c =
    on_ok_weaker c.begin_row.result
    (λ begins left.
    begins left ∙ begun c.args.rows.now c.args.row.now left c.args.action (ap (λ row. joins row c.args.action) (sym c.as_slice.ensures) ∙ sym c.joins.ensures ∙ c.if-joins.false)) c.begin_row.ensures
