use Rattle.sched_text.proofs.TraceLaws.{only_bad}
use Rattle.sched_text.proofs.trace.read_trace.Goals as goal

pub returns-clause-only_bad : goal.returns-clause-only_bad
returns-clause-only_bad c number bad = only_bad c.args.p c.args.text.now c.read_actions.result number c.read_actions.ensures.read bad
