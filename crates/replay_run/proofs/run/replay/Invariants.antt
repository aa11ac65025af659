use Rattle.std.proofs.Common.{◌≡◌}
use Rattle.da_system.specs.State.{IsReady, Whichever, program_of}
use Rattle.replay_run.proofs.WaitLemmas.{ComeTo}
use Rattle.replay_run.proofs.run.replay.Given as goal

abbrev pub invariant-loop-place : goal.invariant-loop-place
invariant-loop-place g l = record {
  ready : IsReady l.system;
  program : program_of l.system ≡ program_of l.initial.system;
  come : Whichever l.initial.system (λ s. ComeTo (program_of l.initial.system) s l.events l.place l.system (g.K.Sink.taken l.initial.sink) (g.K.Sink.taken l.sink) l.text);
  faults : g.K.Sink.faults l.sink ≡ g.K.Sink.faults l.initial.sink;
}
