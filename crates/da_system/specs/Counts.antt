-- The counts of the events that may be picked in a state, and how they follow an event.
use Rattle.std.specs.Prelude.{◌≡◌, ℕ, List, length, Some}
use Rattle.std.specs.List.{AllByRecursion, filter}
use Rattle.da_lang.specs.declared.event.Action.{Action}
use Rattle.da_lang.specs.declared.event.Action.TheVariants.{Sent}
use Rattle.da_lang.specs.declared.event.Event.{Event}
use Rattle.da_lang.specs.declared.event.Event.TheVariants.{Move, Take, Timeout, Deliver, Lose, Repeat}
use Rattle.da_lang.specs.declared.program.Program.{Program}
use Rattle.da_lang.specs.World.{at_number}
use Rattle.da_system.specs.Channels.{or_empty}
use Rattle.da_system.specs.Choices.{deliveries_to, is_allowed, moves_of}
use Rattle.da_system.specs.Counted.{Counted}
use Rattle.da_system.specs.Queues.{IsAmong}
use Rattle.da_system.specs.SystemStep.{SystemState}

-- how many of these events are allowed
abbrev pub allowed_in : Program → SystemState → List Event → ℕ
allowed_in program s events = length (filter (is_allowed program s) events)

-- the moves of process p are counted, with its timeout
abbrev pub CountsMoves : Program → SystemState → Counted → ℕ → Type 0
CountsMoves program s counts p = at_number counts.moves p ≡ Some (allowed_in program s (moves_of s p))

-- the deliveries from p to q are counted
abbrev pub CountsDeliveries : Program → SystemState → Counted → ℕ → ℕ → Type 0
CountsDeliveries program s counts p q = at_number (or_empty (at_number counts.deliveries p)) q ≡ Some (allowed_in program s (deliveries_to p q))

-- there is a count for each of so many processes, and for each two of them
pub record HasSizes (count : ℕ) (counts : Counted) : Type 0 where
  pub moves : length counts.moves ≡ count
  pub senders : length counts.deliveries ≡ count
  pub recipients : AllByRecursion (λ (row : List ℕ). length row ≡ count) counts.deliveries

-- THE COUNTS OF A STATE

pub record AreCounts (program : Program) (s : SystemState) (counts : Counted) : Type 0 where
  pub sizes : HasSizes (length s.worlds) counts
  pub moves : (p : ℕ) → IsAmong (length s.worlds) p → CountsMoves program s counts p
  pub deliveries : (p q : ℕ) → IsAmong (length s.worlds) p → IsAmong (length s.worlds) q → CountsDeliveries program s counts p q

-- HOW THEY FOLLOW AN EVENT, from counts that have the sizes

-- what was counted is counted still
pub record KeepsCounts (program : Program) (s : SystemState) (old new : Counted) : Type 0 where
  pub sizes : (count : ℕ) → HasSizes count old → HasSizes count new
  pub moves : (p : ℕ) → CountsMoves program s old p → CountsMoves program s new p
  pub deliveries : (p q : ℕ) → CountsDeliveries program s old p q → CountsDeliveries program s new p q

-- the deliveries between two processes are counted, if both are there
abbrev pub CountsChannel : Program → SystemState → Counted → ℕ → ℕ → Type 0
CountsChannel program s counts p q = IsAmong (length s.worlds) p → IsAmong (length s.worlds) q → CountsDeliveries program s counts p q

-- the moves of process p are counted, if it is there, and what may arrive at it
pub record CountsProcess (program : Program) (s : SystemState) (counts : Counted) (p : ℕ) : Type 0 where
  pub moves : IsAmong (length s.worlds) p → CountsMoves program s counts p
  pub arriving : (sender : ℕ) → CountsChannel program s counts sender p

-- what the event itself may have changed is counted: what may become of the process that has another state, or one channel
abbrev pub CountsEvent : Program → SystemState → Counted → Event → Type 0
CountsEvent program s counts (Move p) = CountsProcess program s counts p
CountsEvent program s counts (Take p k) = CountsProcess program s counts p
CountsEvent program s counts (Timeout p) = CountsProcess program s counts p
CountsEvent program s counts (Deliver p q i) = CountsProcess program s counts q
CountsEvent program s counts (Lose p q i) = CountsChannel program s counts p q
CountsEvent program s counts (Repeat p q i) = CountsChannel program s counts p q
CountsEvent program s counts _ = Unit {0}

-- and the channel into which an action sends
abbrev pub CountsSent : Program → SystemState → Counted → Action → Type 0
CountsSent program s counts (Sent p q time m) = CountsChannel program s counts p q
CountsSent program s counts _ = Unit {0}

-- all that an event with these actions may have changed
pub record CountsStep (program : Program) (s : SystemState) (e : Event) (actions : List Action) (counts : Counted) : Type 0 where
  pub event : CountsEvent program s counts e
  pub sent : AllByRecursion (CountsSent program s counts) actions
