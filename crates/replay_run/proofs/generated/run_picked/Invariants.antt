use Rattle.std.proofs.Common.{◌≡◌, ◌*◌, ◌-◌, ◌^◌}
use Rattle.da_system.specs.State.{IsReady, Whichever, program_of}
use Rattle.replay_run.specs.Stress.{HasRoom}
use Rattle.replay_run.proofs.StressLemmas.{CameBy}
use Rattle.replay_run.proofs.generated.run_picked.Given as goal

abbrev pub invariant-loop-events : goal.invariant-loop-events
invariant-loop-events l = record {
  ready : IsReady l.system;
  program : program_of l.system ≡ program_of l.fn.system;
  came : Whichever l.fn.system (λ s. CameBy (program_of l.fn.system) s l.start l.n l.events l.system l.counts l.last);
  room : HasRoom l.counts ((l.n - l.events) * 2 ^ 64);
}
