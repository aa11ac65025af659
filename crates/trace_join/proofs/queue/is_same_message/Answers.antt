-- Messages of one time are told apart by their values.
use Rattle.trace_join.proofs.QueueLaws.{by_messages}
use Rattle.trace_join.proofs.queue.is_same_message.Goals as goal

pub returns-then-t-t2 : goal.returns-then-t-t2
returns-then-t-t2 c = by_messages _ _ _ _ _ _ _ _ _ _ _ c.in-Sent.is c.in-Got.is c.if-t-t2.true c.same_value.ensures
