use Rattle.da_system.specs.State.{IsReady}
use Rattle.hunt_cover.proofs.tried.hands.Given as goal

abbrev pub invariant-loop-event : goal.invariant-loop-event
invariant-loop-event l = IsReady l.system
