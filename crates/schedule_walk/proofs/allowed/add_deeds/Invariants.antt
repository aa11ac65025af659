use Rattle.da_system.specs.Choices.{is_allowed}
use Rattle.da_system.specs.State.{Whichever, program_of}
use Rattle.schedule_walk.specs.Allowed.{deeds_from}
use Rattle.schedule_walk.proofs.AllowedLemmas.{AddsUpTo}
use Rattle.schedule_walk.proofs.allowed.add_deeds.Given as goal

abbrev pub invariant-loop-place : goal.invariant-loop-place
invariant-loop-place l = Whichever l.system (λ s. AddsUpTo (is_allowed (program_of l.system) s) (deeds_from l.deed s) l.place l.fn.out l.out)
