-- The states that a network in code stands for.
use Rattle.std.specs.Prelude.{◌≡◌, ◌↔◌, ℕ, ◌+◌, Bool, true, false, List, [], ◌∷◌, ◌++◌, length, Option, Some, None, Result, Ok, Err}
use Rattle.da_lang.specs.declared.event.Action.{Action}
use Rattle.da_lang.specs.declared.program.Program.{Program}
use Rattle.da_lang.specs.World.{World}
use Rattle.da_machine.specs.RunsTo.{AddsPrefix}
use Rattle.da_core.specs.declared.place.StepFault.{StepFault}
use Rattle.da_core.specs.declared.place.StepFault.TheVariants.{Forbidden, Memory, Spent}
use Rattle.da_core.specs.declared.process.Core.{Core}
use Rattle.da_core.specs.Compiled.{IsCompiled}
use Rattle.da_core.specs.Compiled as compiled
use Rattle.da_core.specs.StandsFor.{StandsFor}
use Rattle.da_core.specs.StandsFor as process
use Rattle.da_system.specs.declared.network.Network.{Network}
use Rattle.da_system.specs.Channels.{after_actions}
use Rattle.da_system.specs.Queues as queues
use Rattle.da_system.specs.SoundState.{IsSoundState}
use Rattle.da_system.specs.SystemStep.{AfterEvent, SystemState}

abbrev pub program_of : Network → Program
program_of network = compiled.program_of network.compiled.now

-- an earlier step found no memory
abbrev pub is_spent : Network → Bool
is_spent network = network.spent

-- a core of the program stands for a world, which is that of the process of this number
pub record StandsAt (program : Program) (me : ℕ) (core : Core) (w : World) : Type 0 where
  pub same : process.program_of core ≡ program
  pub number : w.data'.me ≡ me
  pub stands : StandsFor core w

-- cores stand for the worlds of processes that are numbered from the first, in their order
abbrev pub StandFrom : Program → ℕ → List Core → List World → Type 0
StandFrom program first [] [] = Unit {0}
StandFrom program first (core ∷ cores) (w ∷ ws) = StandsAt program first core w × StandFrom program (first + 1) cores ws
StandFrom program first _ _ = ⊥

-- The network stands for this state of a compiled program, which is sound: it is not spent, each of its cores stands for the
-- world of its process, and each of its queues for the channel of two processes.
pub record Stands (network : Network) (s : SystemState) : Type 0 where
  pub unspent : network.spent ≡ false
  pub compiled : IsCompiled network.compiled.now
  pub sound : IsSoundState (program_of network) s
  pub each : length network.cores.items ≡ length (program_of network).procs
  pub cores : StandFrom (program_of network) 1 network.cores.items s.worlds
  pub count : queues.count_of network.channels ≡ length (program_of network).procs
  pub channels : queues.StandsFor network.channels s.channels

-- it holds of each state that the network stands for
abbrev pub Whichever : Network → (SystemState → Type 0) → Type 0
Whichever network holds = (s : SystemState) → Stands network s → holds s

-- the two stand for the same states
abbrev pub StandAlike : Network → Network → Type 0
StandAlike network other = (s : SystemState) → Stands network s ↔ Stands other s

-- a network that is not spent stands for some state
abbrev pub IsReady : Network → Type 0
IsReady network = network.spent ≡ false → (s : SystemState) × Stands network s

-- the event was allowed, and the network stands for the state that its step leads to; its actions were added
pub record HasStepped (step : Option AfterEvent) (network : Network) (old new : List Action) : Type 0 where
  pub after : AfterEvent
  pub is : step ≡ Some after
  pub stands : Stands network after.state
  pub added : new ≡ old ++ after.actions

-- the event was allowed, and a prefix of its actions was added
pub record HasBegun (step : Option AfterEvent) (old new : List Action) : Type 0 where
  pub after : AfterEvent
  pub is : step ≡ Some after
  pub front : AddsPrefix old new after.actions

-- what a network that is not spent answers to an event with this step, and what it leaves
abbrev pub Answers : (SystemState → Option AfterEvent) → Network → Result (Unit {0}) StepFault → Network → List Action → List Action → Type 0
Answers step network (Ok done) left old new = Whichever network (λ s. HasStepped (step s) left old new)
Answers step network (Err Forbidden) left old new = Whichever network (λ s. step s ≡ None) × StandAlike network left × (new ≡ old)
Answers step network (Err Memory) left old new = (is_spent left ≡ true) × Whichever network (λ s. HasBegun (step s) old new)
Answers step network (Err Spent) left old new = ⊥

-- the messages of these actions were posted, and nothing else has changed
pub record HasPosted (network : Network) (actions : List Action) (left : Network) : Type 0 where
  pub spent : left.spent ≡ network.spent
  pub compiled : left.compiled.now ≡ network.compiled.now
  pub cores : left.cores.items ≡ network.cores.items
  pub count : queues.count_of left.channels ≡ queues.count_of network.channels
  pub channels : queues.Each network.channels (λ channels. queues.StandsFor left.channels (after_actions channels actions))
