use Rattle.std.proofs.Common.{sym}
use Rattle.trace_page.proofs.FormLemmas.{sent_others}
use Rattle.trace_page.proofs.sheet.sent_by.Goals as goal

pub returns-in_default : goal.returns-in_default
returns-in_default c = sym (sent_others c.args.action.now c.in_default.not-Sent)
