use Rattle.trace_page.proofs.FormLemmas.{later_others}
use Rattle.trace_page.proofs.rows.comes_later.Goals as goal

pub returns-in_default : goal.returns-in_default
returns-in_default c = later_others c.args.action.now c.in_default.not-Sent c.in_default.not-Out c.in_default.not-End c.in_default.not-Fault
