use Rattle.std.proofs.Common.{length}
use Rattle.da_system.specs.Counts.{HasSizes}
use Rattle.da_system.specs.Network.{Whichever, program_of}
use Rattle.da_system.proofs.RenewLaws.{Counting}
use Rattle.da_system.proofs.renewal.renew_all.Given as goal

abbrev pub invariant-loop-place : goal.invariant-loop-place
invariant-loop-place l = Whichever l.network (λ s. HasSizes (length s.worlds) l.fn.counts → Counting (program_of l.network) s l.counts l.place)
