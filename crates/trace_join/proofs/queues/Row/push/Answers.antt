-- The message stands at the end of its channel, and the others are the same.
use Rattle.std.proofs.Common.{◌≡◌, ◌-◌, List, ap, arith, length, slice_set, subst}
use Rattle.std.proofs.lemmas.Result.{on_ok_weaker}
use Rattle.da_system.specs.Channels.{MessageInFlight}
use Rattle.trace_join.specs.Fetching.{message_in}
use Rattle.trace_join.specs.Sending.{Pushes}
use Rattle.trace_join.proofs.SendLaws.{number_above, row_pushed}
use Rattle.trace_join.proofs.queues.Row.push.Goals as goal

pub returns-clause-pushes : goal.returns-clause-pushes
returns-clause-pushes c =
    let size : length c.self.inside.queues.items ≡ length c.args.self.now = ap length c.self.view_is in
    on_ok_weaker c.push.result
    (λ pushed. subst (λ (row : List (List MessageInFlight)). Pushes row (slice_set c.self.inside.queues.items (c.args.to - 1) c.push.new.self) c.args.to
    (message_in c.args.sent.now)) c.self.view_is
    (row_pushed c.self.inside.queues.items c.args.to c.index_mut.result.now c.push.new.self
    (number_above c.args.to c.if-to-eq0.false, omega (arith, c.if-to-len.false, c.len.ensures, c.self.inside.queues.ok.0)) c.index_mut.ensures.value
    (message_in c.args.sent.now) pushed))
    c.push.ensures
