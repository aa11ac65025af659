-- What a step does to a process in code.
use Rattle.std.specs.Prelude.{◌≡◌, List, ◌++◌, Some}
use Rattle.da_lang.specs.declared.event.Action.{Action}
use Rattle.da_lang.specs.Steps.{Step, Stepped, proc_step}
use Rattle.da_lang.specs.World.{World, Phase, New, Waiting, Ended, Faulted}
use Rattle.da_machine.specs.RunsTo.{AddsPrefix}
use Rattle.da_core.specs.declared.process.Core.{Core}
use Rattle.da_core.specs.declared.place.Place.{Place}
use Rattle.da_core.specs.declared.place.Place.TheVariants as place
use Rattle.da_core.specs.declared.place.Stopped.{Stopped}
use Rattle.da_core.specs.declared.place.Stopped.TheVariants as stopped
use Rattle.da_core.specs.StandsFor.{StandsFor, program_of}

-- the phase of a process that stands at a place, and of one that has stopped so
abbrev pub phase_at : Place → Phase
phase_at place.New = New
phase_at place.Label = Waiting
phase_at (place.Await count) = Waiting
phase_at place.Ended = Ended
phase_at place.Faulted = Faulted

abbrev pub phase_of : Stopped → Phase
phase_of stopped.AtYield = Waiting
phase_of stopped.Ended = Ended
phase_of stopped.Faulted = Faulted

-- how a process has stopped that stands at a place
abbrev pub stopped_at : Place → Stopped
stopped_at place.Ended = stopped.Ended
stopped_at place.Faulted = stopped.Faulted
stopped_at _ = stopped.AtYield

-- The step was allowed in the world, and the core stands for the one to which it led, which is one of the same process; its
-- actions were added.
pub record HasMade (core : Core) (w : World) (step : Step) (new : Core) (answer : Stopped) (old_out new_out : List Action) : Type 0 where
  pub after : Stepped
  pub leads : proc_step (program_of core) w step ≡ Some after
  pub stands : StandsFor new after.world
  pub same : after.world.data'.me ≡ w.data'.me
  pub stopped : phase_of answer ≡ after.world.phase
  pub added : new_out ≡ old_out ++ after.actions

-- the step was allowed, and a prefix of its actions was added
pub record HasBegun (core : Core) (w : World) (step : Step) (old_out new_out : List Action) : Type 0 where
  pub after : Stepped
  pub leads : proc_step (program_of core) w step ≡ Some after
  pub front : AddsPrefix old_out new_out after.actions
