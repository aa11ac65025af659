use Rattle.std.proofs.Common.{rules, append_assoc}
use Rattle.sched_text.proofs.ActionLemmas.{set_text}
use Rattle.trace_page.proofs.label.put_answer.Goals as goal

pub returns : goal.returns
returns c = search (rules, append_assoc, set_text)
