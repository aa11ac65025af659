use Rattle.std.proofs.Common.{subst, sym}
use Rattle.da_system.specs.Counts.{CountsChannel, CountsSent}
use Rattle.da_system.specs.Network.{program_of}
use Rattle.da_system.proofs.RenewLaws.{keeps_same}
use Rattle.da_system.proofs.renewal.renew_action.Goals as goal

pub returns-in-Sent-clause-made : goal.returns-in-Sent-clause-made
returns-in-Sent-clause-made c = λ s stands sizes.
    let program = program_of c.args.network.now in
    let new = c.renew_channel.new.counts in
    subst (CountsSent program s new) (sym c.in-Sent.is)
    (subst (λ p. CountsChannel program s new p c.in-Sent.q) c.from.ensures (subst (λ q. CountsChannel program s new c.from.result q) c.from-in-Sent.ensures (c.renew_channel.ensures.made s stands sizes)))

pub returns-in_default-clause-keeps : goal.returns-in_default-clause-keeps
returns-in_default-clause-keeps c = λ s stands. keeps_same (program_of c.args.network.now) s c.args.counts.now
