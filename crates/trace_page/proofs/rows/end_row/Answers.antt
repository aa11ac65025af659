use Rattle.std.proofs.lemmas.Result.{on_ok_weaker}
use Rattle.trace_page.proofs.RowLemmas.{row_made}
use Rattle.trace_page.proofs.rows.end_row.Goals as goal

pub returns-clause-rows : goal.returns-clause-rows
returns-clause-rows c =
    on_ok_weaker c.push.result
    (row_made c.new-words.result c.replace-actions.result c.args.row.now c.new-changes.result c.args.rows.now c.push.new.self c.new-words.ensures c.replace-actions.ensures.value c.new-changes.ensures) c.push.ensures.ok
