use Rattle.std.proofs.Common.{◌<◌, ◌∙◌, arith, length, subst, sym}
use Rattle.da_system.specs.Queues.{IsAmong}
use Rattle.da_system.proofs.CountLaws.{row_none, row_there}
use Rattle.da_system.proofs.counts.Counts.put_deliveries.Goals as goal

pub put_row_at-requires-clause-place : goal.put_row_at-requires-clause-place
put_row_at-requires-clause-place c = omega (arith, c.in-Some.ensures.1, c.senders.ensures)

pub returns-in-Some : goal.returns-in-Some
returns-in-Some c =
    let inside : c.in-Some.place < length c.args.self.now.deliveries = omega (arith, c.in-Some.ensures.1, c.senders.ensures) in
    c.put_row_at.ensures ∙ row_there c.args.self.now c.args.p c.args.q c.in-Some.place c.args.count c.in-Some.ensures.0 inside

pub returns-in-None : goal.returns-in-None
returns-in-None c = row_none c.args.self.now c.args.p c.args.q c.args.count (λ among. c.in-None.ensures (subst (λ n. IsAmong n c.args.p) (sym c.senders.ensures) among))
