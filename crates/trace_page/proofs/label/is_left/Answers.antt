use Rattle.trace_page.proofs.FormLemmas.{left_others}
use Rattle.trace_page.proofs.label.is_left.Goals as goal

pub returns-in_default : goal.returns-in_default
returns-in_default c = left_others c.args.action.now c.in_default.not-Sent c.in_default.not-Got
