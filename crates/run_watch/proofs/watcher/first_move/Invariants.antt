use Rattle.da_core.specs.StandsFor.{Whichever, program_of}
use Rattle.run_watch.proofs.MoveLemmas.{LeftFrom}
use Rattle.run_watch.proofs.watcher.first_move.Given as goal

abbrev pub invariant-loop-turn : goal.invariant-loop-turn
invariant-loop-turn l = Whichever l.core (λ w. LeftFrom (program_of l.core) w l.turn)
