use Rattle.da_system.specs.State.{IsReady}
use Rattle.run_hints.proofs.reached.run_events.Given as goal

abbrev pub invariant-loop-event : goal.invariant-loop-event
invariant-loop-event l = IsReady l.system
