use Rattle.std.proofs.Common.{◌≡◌}
use Rattle.std.specs.Prelude.{None}
use Rattle.da_system.specs.State.{IsReady, Whichever, program_of}
use Rattle.replay_run.proofs.RunLemmas.{Came}
use Rattle.schedule_walk.proofs.following.run.Given as goal

abbrev pub invariant-loop-place : goal.invariant-loop-place
invariant-loop-place l = record {
  ready : IsReady l.system;
  program : program_of l.system ≡ program_of l.fn.system;
  came : Whichever l.fn.system (λ s. Came (program_of l.fn.system) s l.events l.place l.system None None);
}
