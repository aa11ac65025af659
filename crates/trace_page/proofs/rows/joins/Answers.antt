use Rattle.std.proofs.Common.{◌∙◌, arith, sym}
use Rattle.trace_page.proofs.RowLemmas.{joins_last}
use Rattle.trace_page.proofs.rows.joins.Goals as goal

pub returns-in-len1-up : goal.returns-in-len1-up
returns-in-len1-up c = c.goes_on.ensures ∙ sym (joins_last c.args.row.now c.last-item.result c.args.action.now (omega (arith, c.in-len1-up.len_at_least)) c.last-item.is)
