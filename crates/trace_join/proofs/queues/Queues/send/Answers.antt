-- The channels from the process have what it sent, and the others are the same.
use Rattle.std.proofs.Common.{◌-◌, length, slice_set, subst, sym}
use Rattle.std.proofs.lemmas.Result.{on_ok_weaker}
use Rattle.da_system.specs.Channels.{Channels}
use Rattle.trace_join.specs.Sending.{IsOneOf, Sends}
use Rattle.trace_join.proofs.SendLaws.{rows_sent}
use Rattle.trace_join.proofs.queues.Queues.send.Goals as goal

pub returns-clause-sends : goal.returns-clause-sends
returns-clause-sends c =
    on_ok_weaker c.send.result
    (λ sends. subst (λ (rows : Channels). Sends c.args.me c.args.told.now rows
    (slice_set c.self.inside.rows.items (c.args.me - 1) c.send.new.self)) c.self.view_is
    (rows_sent c.self.inside.rows.items c.args.me c.index_mut.result.now c.send.new.self c.self.invariant
    (subst (λ (rows : Channels). IsOneOf (length rows) c.args.me) (sym c.self.view_is) c.requires) c.index_mut.ensures.value c.args.told.now sends))
    c.send.ensures.sends
