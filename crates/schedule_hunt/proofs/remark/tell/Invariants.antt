use Rattle.da_system.specs.State.{IsReady}
use Rattle.schedule_hunt.proofs.remark.tell.Given as goal

abbrev pub invariant-loop-event : goal.invariant-loop-event
invariant-loop-event l = IsReady l.run.system
