-- The status of a call whose part ended so.
use Rattle.replay_run.specs.declared.outcome.Outcome.{Outcome}
use Rattle.replay_run.specs.declared.outcome.Outcome.TheVariants as run
use Rattle.schedule_hunt.specs.declared.hunting.HuntOutcome.{HuntOutcome}
use Rattle.schedule_hunt.specs.declared.hunting.HuntOutcome.TheVariants as hunt
use Rattle.schedule_walk.specs.declared.outcome.NextOutcome.{NextOutcome}
use Rattle.schedule_walk.specs.declared.outcome.NextOutcome.TheVariants as next
use Rattle.scout_commands.specs.declared.status.Status.{Status}
use Rattle.scout_commands.specs.declared.status.Status.TheVariants.{Done, Forbidden, WriteFault, Memory, Found, Unspelled}

abbrev pub status_of_run : Outcome → Status
status_of_run run.Done = Done
status_of_run (run.Forbidden event) = Forbidden event
status_of_run run.WriteFault = WriteFault
status_of_run run.Memory = Memory

abbrev pub status_of_next : NextOutcome → Status
status_of_next next.Done = Done
status_of_next (next.Forbidden event) = Forbidden event
status_of_next next.Unspelled = Unspelled
status_of_next next.WriteFault = WriteFault
status_of_next next.Memory = Memory

abbrev pub status_of_hunt : HuntOutcome → Status
status_of_hunt hunt.Found = Found
status_of_hunt hunt.None = Done
status_of_hunt hunt.Unspelled = Unspelled
status_of_hunt hunt.WriteFault = WriteFault
status_of_hunt hunt.Memory = Memory
