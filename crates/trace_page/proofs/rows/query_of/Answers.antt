use Rattle.trace_page.proofs.FormLemmas.{query_others}
use Rattle.trace_page.proofs.rows.query_of.Goals as goal

pub returns-in_default : goal.returns-in_default
returns-in_default c = query_others c.args.action.now c.in_default.not-Answer
