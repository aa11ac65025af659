use Rattle.std.proofs.Common.{subst, sym}
use Rattle.da_system.specs.Counted.{Counted}
use Rattle.da_system.specs.Counts.{CountsChannel, KeepsCounts}
use Rattle.da_system.specs.Network.{program_of}
use Rattle.da_system.proofs.RenewLaws.{keeps_deliveries, puts_deliveries}
use Rattle.da_system.proofs.renewal.renew_channel.Goals as goal

pub returns-clause-keeps : goal.returns-clause-keeps
returns-clause-keeps c = λ s stands.
    subst (λ (new : Counted). KeepsCounts (program_of c.args.network.now) s c.args.counts.now new) (sym c.put_deliveries.ensures)
    (keeps_deliveries (program_of c.args.network.now) s c.args.counts.now c.args.p c.args.q c.deliveries-count.result (c.deliveries-count.ensures.number s stands))

pub returns-clause-made : goal.returns-clause-made
returns-clause-made c = λ s stands sizes.
    subst (λ (new : Counted). CountsChannel (program_of c.args.network.now) s new c.args.p c.args.q) (sym c.put_deliveries.ensures)
    (puts_deliveries (program_of c.args.network.now) s c.args.counts.now c.args.p c.args.q c.deliveries-count.result (c.deliveries-count.ensures.number s stands) sizes)
