-- The schedule that numbers generate, as a text.
use Rattle.std.specs.Prelude.{◌≡◌, ℕ, List, Option, None, Some}
use Rattle.std.specs.List.{flat_map}
use Rattle.da_lang.specs.declared.event.Event.{Event}
use Rattle.da_lang.specs.declared.program.Program.{Program}
use Rattle.da_outside.specs.Outside.{Appends}
use Rattle.da_system.specs.declared.system.System.{System}
use Rattle.da_system.specs.Choices.{choices}
use Rattle.da_system.specs.State.{Stands}
use Rattle.da_system.specs.StressRun.{next_number, pick}
use Rattle.da_system.specs.SystemStep.{AfterEvent, SystemState, sys_step}
use Rattle.replay_run.specs.Replay.{StandsAfter}
use Rattle.replay_run.specs.Stress.{picked_on}
use Rattle.sched_text.specs.EventText.{event_line}
use Rattle.schedule_walk.specs.declared.generated.Pick.{Pick}

-- the lines of some events
abbrev pub schedule_text : List Event → List ℕ
schedule_text = flat_map event_line

-- the lines of the events that are picked from this state: at most n of them, where the last number was x
abbrev pub walk_text : Program → SystemState → ℕ → ℕ → List ℕ
walk_text program s x n = schedule_text (picked_on program s x n)

-- these are the events that are picked from this state, and the system stands where they lead
pub record ArePicked (program : Program) (s : SystemState) (x n : ℕ) (events : List Event) (system : System) : Type 0 where
  pub events_are : events ≡ picked_on program s x n
  pub stands : StandsAfter program s (picked_on program s x n) system

-- they were picked and carried out, and a sink gained their lines
pub record HasWalked (program : Program) (s : SystemState) (x n : ℕ) (system : System) (before after : Option (List ℕ)) : Type 0 where
  pub stands : StandsAfter program s (picked_on program s x n) system
  pub written : Appends before after (walk_text program s x n)

-- ONE EVENT

-- the number that comes after x picked this event, and it was carried out
pub record WasPicked (program : Program) (s : SystemState) (x : ℕ) (found : Pick) (system : System) : Type 0 where
  pub number_is : found.number ≡ next_number x
  pub picks : pick (choices program s) (next_number x) ≡ Some found.event
  pub after : AfterEvent
  pub is : sys_step program s found.event ≡ Some after
  pub stands : Stands system after.state

-- there was no event to pick, and nothing has changed
pub record IsOver (program : Program) (s : SystemState) (x : ℕ) (system : System) : Type 0 where
  pub none : pick (choices program s) (next_number x) ≡ None
  pub stands : Stands system s

abbrev pub IsNext : Program → SystemState → ℕ → Option Pick → System → Type 0
IsNext program s x None system = IsOver program s x system
IsNext program s x (Some found) system = WasPicked program s x found system
