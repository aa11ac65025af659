use Rattle.trace_page.proofs.FormLemmas.{go_on_others}
use Rattle.trace_page.proofs.rows.may_go_on.Goals as goal

pub returns-in_default : goal.returns-in_default
returns-in_default c = go_on_others c.args.action.now c.in_default.not-Took c.in_default.not-Got c.in_default.not-Sent c.in_default.not-Out
