use Rattle.da_system.specs.Network.{Whichever, program_of}
use Rattle.da_system.proofs.RenewLaws.{Renewing}
use Rattle.da_system.proofs.renewal.renew_process.Given as goal

abbrev pub invariant-loop-place : goal.invariant-loop-place
invariant-loop-place l = Whichever l.network (λ s. Renewing (program_of l.network) s l.fn.counts l.counts l.p l.place)
