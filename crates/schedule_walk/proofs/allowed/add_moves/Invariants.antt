use Rattle.da_system.specs.Choices.{choices}
use Rattle.da_system.specs.State.{Whichever, program_of}
use Rattle.schedule_walk.proofs.AllowedLemmas.{Prefixes}
use Rattle.schedule_walk.proofs.allowed.add_moves.Given as goal

abbrev pub invariant-loop-place : goal.invariant-loop-place
invariant-loop-place l = Whichever l.system (λ s. Prefixes (choices (program_of l.system) s) l.place l.fn.out l.out)
