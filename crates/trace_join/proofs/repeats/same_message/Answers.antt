-- Messages of one time are told apart by their values.
use Rattle.trace_join.proofs.QueueLaws.{decides_message}
use Rattle.trace_join.proofs.repeats.same_message.Goals as goal

pub returns-then-t-t2 : goal.returns-then-t-t2
returns-then-t-t2 c = decides_message c.args.v.now c.args.v2.now c.args.t c.args.t2 c.same_value.result c.if-t-t2.true c.same_value.ensures
