use Rattle.std.proofs.Common.{take}
use Rattle.da_system.specs.Network.{Whichever, program_of}
use Rattle.da_system.proofs.RenewLaws.{Sending}
use Rattle.da_system.proofs.renewal.renew_sent.Given as goal

abbrev pub invariant-loop-action : goal.invariant-loop-action
invariant-loop-action l = Whichever l.network (λ s. Sending (program_of l.network) s l.fn.counts l.counts (take l.action-index l.actions))
