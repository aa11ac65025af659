use Rattle.std.proofs.Common.{rules, append_assoc}
use Rattle.sched_text.proofs.ActionLemmas.{set_text}
use Rattle.sched_text.proofs.action.put_answer.Goals as goal

pub returns-clause-ok : goal.returns-clause-ok
returns-clause-ok c = search (rules, append_assoc, set_text)
