use Rattle.std.proofs.Common.{◌++◌, ◌∙◌, ap, append-nil, sym}
use Rattle.std.proofs.lemmas.Result.{on_ok_weaker}
use Rattle.trace_page.proofs.RowLemmas.{nothing_ends, one_ends}
use Rattle.trace_page.proofs.rows.end_last.Goals as goal

pub returns-then-len-eq0 : goal.returns-then-len-eq0
returns-then-len-eq0 c = sym (append-nil c.args.rows.now) ∙ ap (λ more. c.args.rows.now ++ more) (nothing_ends c.args.row.now (sym c.len.ensures ∙ c.if-len-eq0.true))

pub returns : goal.returns
returns c =
    on_ok_weaker c.end_row.result
    (λ ends. ends ∙ ap (λ more. c.args.rows.now ++ more) (one_ends c.args.row.now (λ none. c.if-len-eq0.false (c.len.ensures ∙ none)))) c.end_row.ensures.rows
