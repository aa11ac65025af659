use Rattle.da_system.specs.Choices.{is_allowed}
use Rattle.da_system.specs.State.{Whichever, program_of}
use Rattle.schedule_walk.proofs.AllowedLemmas.{AddsUpTo, one_deed}
use Rattle.schedule_walk.proofs.allowed.add_deeds_to.Given as goal

abbrev pub invariant-loop-place : goal.invariant-loop-place
invariant-loop-place l = Whichever l.system (λ s. AddsUpTo (is_allowed (program_of l.system) s) (one_deed l.deed l.p l.q) l.place l.fn.out l.out)
