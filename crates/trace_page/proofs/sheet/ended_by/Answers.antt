use Rattle.std.proofs.Common.{sym}
use Rattle.trace_page.proofs.FormLemmas.{ended_others}
use Rattle.trace_page.proofs.sheet.ended_by.Goals as goal

pub returns-in_default : goal.returns-in_default
returns-in_default c = sym (ended_others c.args.action.now c.in_default.not-Got c.in_default.not-Lost)
