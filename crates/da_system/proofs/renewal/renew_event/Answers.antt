use Rattle.std.proofs.Common.{subst, sym}
use Rattle.da_system.specs.Counts.{CountsEvent}
use Rattle.da_system.specs.Network.{program_of}
use Rattle.da_system.proofs.RenewLaws.{keeps_same}
use Rattle.da_system.proofs.renewal.renew_event.Goals as goal

pub returns-in-Move-clause-made : goal.returns-in-Move-clause-made
returns-in-Move-clause-made c = λ s stands sizes.
    subst (CountsEvent (program_of c.args.network.now) s c.renew_process.new.counts) (sym c.in-Move.is) (c.renew_process.ensures.made s stands sizes)

pub returns-in-Take-clause-made : goal.returns-in-Take-clause-made
returns-in-Take-clause-made c = λ s stands sizes.
    subst (CountsEvent (program_of c.args.network.now) s c.renew_process-in-Take.new.counts) (sym c.in-Take.is) (c.renew_process-in-Take.ensures.made s stands sizes)

pub returns-in-Timeout-clause-made : goal.returns-in-Timeout-clause-made
returns-in-Timeout-clause-made c = λ s stands sizes.
    subst (CountsEvent (program_of c.args.network.now) s c.renew_process-in-Timeout.new.counts) (sym c.in-Timeout.is) (c.renew_process-in-Timeout.ensures.made s stands sizes)

pub returns-in-Deliver-clause-made : goal.returns-in-Deliver-clause-made
returns-in-Deliver-clause-made c = λ s stands sizes.
    subst (CountsEvent (program_of c.args.network.now) s c.renew_process-in-Deliver.new.counts) (sym c.in-Deliver.is) (c.renew_process-in-Deliver.ensures.made s stands sizes)

pub returns-in-Lose-clause-made : goal.returns-in-Lose-clause-made
returns-in-Lose-clause-made c = λ s stands sizes.
    subst (CountsEvent (program_of c.args.network.now) s c.renew_channel.new.counts) (sym c.in-Lose.is) (c.renew_channel.ensures.made s stands sizes)

pub returns-in-Repeat-clause-made : goal.returns-in-Repeat-clause-made
returns-in-Repeat-clause-made c = λ s stands sizes.
    subst (CountsEvent (program_of c.args.network.now) s c.renew_channel-in-Repeat.new.counts) (sym c.in-Repeat.is) (c.renew_channel-in-Repeat.ensures.made s stands sizes)

pub returns-in-Show-clause-keeps : goal.returns-in-Show-clause-keeps
returns-in-Show-clause-keeps c = λ s stands. keeps_same (program_of c.args.network.now) s c.args.counts.now

pub returns-in-Show-clause-made : goal.returns-in-Show-clause-made
returns-in-Show-clause-made c = λ s stands sizes. subst (CountsEvent (program_of c.args.network.now) s c.args.counts.now) (sym c.in-Show.is) tt

pub returns-in-Stat-clause-keeps : goal.returns-in-Stat-clause-keeps
returns-in-Stat-clause-keeps c = λ s stands. keeps_same (program_of c.args.network.now) s c.args.counts.now

pub returns-in-Stat-clause-made : goal.returns-in-Stat-clause-made
returns-in-Stat-clause-made c = λ s stands sizes. subst (CountsEvent (program_of c.args.network.now) s c.args.counts.now) (sym c.in-Stat.is) tt
