-- Runs of schedules in code, those that are given and those that numbers generate.
use Rattle.std.specs.Prelude.{◌≡◌, ℕ, Bool, true, false, List, [], ◌∷◌, ◌++◌, Option, Some, None}
use Rattle.da_lang.specs.declared.event.Event.{Event}
use Rattle.da_lang.specs.declared.program.Program.{Program}
use Rattle.da_system.specs.SourceRun.{SrcRun, src_run}
use Rattle.da_system.specs.State.{HasStepped, Stands, program_of}
use Rattle.da_system.specs.SystemStep.{AfterEvent, SystemState, sys_step}
use Rattle.schedule_pick.specs.declared.picker.Picker.{Picker}
use Rattle.schedule_pick.specs.Budgets.{pickable}
use Rattle.schedule_pick.specs.Picked.{picked, picker_after}
use Rattle.schedule_hunt.specs.declared.runs.Run.{Run}
use Rattle.schedule_hunt.specs.declared.runs.Trial.{Trial}
use Rattle.schedule_hunt.specs.declared.what.Trials.{Trials}
use Rattle.schedule_hunt.specs.Hunt.{generated}

-- the run in code has come to the end of this one
pub record StandsAfter (program : Program) (source : SrcRun) (run : Run) : Type 0 where
  pub program_is : program_of run.system ≡ program
  pub actions : run.actions ≡ source.actions
  pub stands : Stands run.system source.state

-- the events ran with no stop, and the run in code has come to their end
pub record HasRun (program : Program) (events : List Event) (run : Run) : Type 0 where
  pub goes : (src_run program events).stop ≡ None
  pub behind : StandsAfter program (src_run program events) run

-- the run of the events, or none where they stop
abbrev pub IsRunOf : Program → List Event → Option Run → Type 0
IsRunOf program events None = (src_run program events).stop ≡ None → ⊥
IsRunOf program events (Some run) = HasRun program events run

-- the schedule that is generated from a number, and its run
pub record IsTrial (program : Program) (trials : Trials) (number : ℕ) (trial : Trial) : Type 0 where
  pub events : trial.events ≡ generated program trials number
  pub run : HasRun program trial.events trial.run

-- ONE EVENT

-- it was carried out, or is not allowed
abbrev pub IsExecuted : Option AfterEvent → Run → Bool → Run → Type 0
IsExecuted step old true new = HasStepped step new.system old.actions new.actions
IsExecuted step old false new = step ≡ None

-- the picker picked an event, which was carried out
pub record WasPicked (program : Program) (s : SystemState) (picker following : Picker) (old new : Trial) : Type 0 where
  pub event : Event
  pub picks : picked picker (pickable program s picker.budget) ≡ Some event
  pub following_is : following ≡ picker_after picker (pickable program s picker.budget) event
  pub stepped : HasStepped (sys_step program s event) new.run.system old.run.actions new.run.actions
  pub events : new.events ≡ old.events ++ event ∷ []

-- there was no event to pick, and nothing has changed
pub record IsOver (program : Program) (s : SystemState) (picker : Picker) (old new : Trial) : Type 0 where
  pub none : picked picker (pickable program s picker.budget) ≡ None
  pub same : new ≡ old

abbrev pub IsPicked : Program → SystemState → Picker → Trial → Bool → Picker → Trial → Type 0
IsPicked program s picker old false following new = IsOver program s picker old new
IsPicked program s picker old true following new = WasPicked program s picker following old new
