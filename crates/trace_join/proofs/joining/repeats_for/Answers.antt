-- Where messages are not doubled nothing is asked.
use Rattle.trace_join.proofs.AllRepeatsLaws.{tells_nothing}
use Rattle.trace_join.proofs.joining.repeats_for.Goals as goal

pub returns-in_default : goal.returns-in_default
returns-in_default c = tells_nothing c.args.trace.now c.new.result c.new.ensures
