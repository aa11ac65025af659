-- The states that a system in code stands for.
use Rattle.std.specs.Prelude.{◌≡◌, ◌↔◌, Bool, true, false, List, ◌++◌, Option, Some, None, Result, Ok, Err}
use Rattle.da_lang.specs.declared.event.Action.{Action}
use Rattle.da_lang.specs.declared.program.Program.{Program}
use Rattle.da_core.specs.declared.place.StepFault.{StepFault}
use Rattle.da_core.specs.declared.place.StepFault.TheVariants.{Forbidden, Memory, Spent}
use Rattle.da_system.specs.declared.system.System.{System}
use Rattle.da_system.specs.Counts.{AreCounts}
use Rattle.da_system.specs.Network.{HasBegun}
use Rattle.da_system.specs.Network as network
use Rattle.da_system.specs.SystemStep.{AfterEvent, SystemState}

abbrev pub program_of : System → Program
program_of system = network.program_of system.network

-- an earlier step found no memory
abbrev pub is_spent : System → Bool
is_spent system = network.is_spent system.network

-- The system stands for this state: its processes with their channels do, and it has counted the events that may be picked.
pub record Stands (system : System) (s : SystemState) : Type 0 where
  pub runs : network.Stands system.network s
  pub counts : AreCounts (program_of system) s system.counts

-- it holds of each state that the system stands for
abbrev pub Whichever : System → (SystemState → Type 0) → Type 0
Whichever system holds = (s : SystemState) → Stands system s → holds s

-- the two stand for the same states
abbrev pub StandAlike : System → System → Type 0
StandAlike system other = (s : SystemState) → Stands system s ↔ Stands other s

-- a system that is not spent stands for some state
abbrev pub IsReady : System → Type 0
IsReady system = is_spent system ≡ false → (s : SystemState) × Stands system s

-- the event was allowed, and the system stands for the state that its step leads to; its actions were added
pub record HasStepped (step : Option AfterEvent) (system : System) (old new : List Action) : Type 0 where
  pub after : AfterEvent
  pub is : step ≡ Some after
  pub stands : Stands system after.state
  pub added : new ≡ old ++ after.actions

-- what a system that is not spent answers to an event with this step, and what it leaves
abbrev pub Answers : (SystemState → Option AfterEvent) → System → Result (Unit {0}) StepFault → System → List Action → List Action → Type 0
Answers step system (Ok done) left old new = Whichever system (λ s. HasStepped (step s) left old new)
Answers step system (Err Forbidden) left old new = Whichever system (λ s. step s ≡ None) × StandAlike system left × (new ≡ old)
Answers step system (Err Memory) left old new = (is_spent left ≡ true) × Whichever system (λ s. HasBegun (step s) old new)
Answers step system (Err Spent) left old new = ⊥
