use Rattle.std.proofs.Common.{◌≡◌}
use Rattle.da_system.specs.State.{IsReady, Whichever, program_of}
use Rattle.schedule_walk.proofs.WalkLemmas.{CameBy}
use Rattle.schedule_walk.proofs.generated.pick_events.Given as goal

abbrev pub invariant-loop-turn : goal.invariant-loop-turn
invariant-loop-turn l = record {
  ready : IsReady l.system;
  program : program_of l.system ≡ program_of l.fn.system;
  came : Whichever l.fn.system (λ s. CameBy (program_of l.fn.system) s l.start l.n l._turn l.system l.last l.events);
}
