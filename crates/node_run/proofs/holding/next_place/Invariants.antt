use Rattle.std.proofs.Common.{◌≡◌}
use Rattle.da_core.specs.StandsFor.{Whichever, program_of}
use Rattle.node_run.proofs.HeldLaws.{FindsFrom}
use Rattle.node_run.proofs.holding.next_place.Given as goal

abbrev pub invariant-loop-place : goal.invariant-loop-place
invariant-loop-place l = Whichever l.core (λ w. l.kind ≡ (program_of l.core).kind → FindsFrom (program_of l.core) w l.held l.place)
