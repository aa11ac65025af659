-- What holds of the state of a system in every run of a program whose worlds stay shaped.
use Rattle.std.specs.Prelude.{◌≡◌, ℕ, ◌+◌, ◌^◌, ◌<◌, true, List, ◌∷◌, length, Some, IfSome}
use Rattle.std.specs.List.{AllByRecursion}
use Rattle.da_values.specs.Proper.{IsValue}
use Rattle.da_lang.specs.declared.event.Action.{Action}
use Rattle.da_lang.specs.declared.event.Action.TheVariants.{Took}
use Rattle.da_lang.specs.declared.event.Event.{Event}
use Rattle.da_lang.specs.declared.event.Event.TheVariants.{Move, Take, Timeout}
use Rattle.da_lang.specs.declared.program.Program.{Program}
use Rattle.da_lang.specs.Shaped.{Shaped, well_typed}
use Rattle.da_lang.specs.World.{World, at_number}
use Rattle.da_system.specs.Channels.{Channels, MessageInFlight}
use Rattle.da_system.specs.Choices.{alternatives_at}
use Rattle.da_system.specs.FlatChannels.{StandFlat}
use Rattle.da_system.specs.SystemStep.{AfterEvent, SystemState, sys_step}

-- a declared message of its types, whose processes are there, sent at a time of 63 bits
pub record IsMessageOf (program : Program) (message : MessageInFlight) : Type 0 where
  pub proper : IsValue message.message
  pub typed : well_typed program message.message ≡ true
  pub in_time : message.time < 2 ^ 63

-- so many lists of as many channels
pub record IsSquare (count : ℕ) (channels : Channels) : Type 0 where
  pub senders : length channels ≡ count
  pub recipients : AllByRecursion (λ (row : List (List MessageInFlight)). length row ≡ count) channels

abbrev pub AllMessages : Program → Channels → Type 0
AllMessages program channels = AllByRecursion (AllByRecursion (AllByRecursion (IsMessageOf program))) channels

-- the program's kind of channels, a shaped world for each process, that of process p at number p, a channel for each pair of
-- them, also in one list, and in the channels such messages
pub record IsSoundState (program : Program) (s : SystemState) : Type 0 where
  pub kind : s.kind ≡ program.kind
  pub each : length s.worlds ≡ length program.procs
  pub worlds : AllByRecursion (Shaped program) s.worlds
  pub numbers : (p : ℕ) (world : World) → at_number s.worlds p ≡ Some world → world.data'.me ≡ p
  pub square : IsSquare (length program.procs) s.channels
  pub flat : StandFlat program s.channels
  pub messages : AllMessages program s.channels

-- a move tells of itself first, and so does a timeout, by the number after that of the last alternative
abbrev pub TellsMove : SystemState → Event → List Action → Type 0
TellsMove s (Move p) actions = (rest : List Action) × (actions ≡ Took p 0 ∷ rest)
TellsMove s (Take p k) actions = (rest : List Action) × (actions ≡ Took p k ∷ rest)
TellsMove s (Timeout p) actions = (rest : List Action) × (actions ≡ Took p (alternatives_at (at_number s.worlds p) + 1) ∷ rest)
TellsMove s _ actions = Unit {0}

-- where the event is allowed it leads from this state to a sound one
pub record LeadsOn (program : Program) (s : SystemState) (e : Event) (after : AfterEvent) : Type 0 where
  pub sound : IsSoundState program after.state
  pub tells : TellsMove s e after.actions

abbrev pub StaysSound : Program → SystemState → Event → Type 0
StaysSound program s e = IsSoundState program s → IfSome (sys_step program s e) (LeadsOn program s e)
