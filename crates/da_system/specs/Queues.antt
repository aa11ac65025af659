-- The channels that queues in code stand for.
use Rattle.std.specs.Prelude.{◌≡◌, ℕ, ◌<◌, ◌≤◌, List, map}
use Rattle.std.specs.List.{AllByRecursion}
use Rattle.da_values.specs.Value.{val_of}
use Rattle.da_lang.specs.declared.event.Action.{Action}
use Rattle.da_lang.specs.declared.event.Action.TheVariants.{Sent}
use Rattle.da_system.specs.declared.channels.Channels.{Channels as Queues}
use Rattle.da_system.specs.declared.queue.InFlight.{InFlight}
use Rattle.da_system.specs.Channels.{Channels, MessageInFlight}
use Rattle.da_system.specs.FlatChannels.{flat}
use Rattle.da_system.specs.SoundState.{IsSquare}

abbrev pub message_of : InFlight → MessageInFlight
message_of x = record { message = val_of x.value; time = x.time }

-- of how many processes they are
abbrev pub count_of : Queues → ℕ
count_of queues = queues.count

-- There is a queue for each channel, in one list, with the same messages and times in their order.
pub record StandsFor (queues : Queues) (channels : Channels) : Type 0 where
  pub square : IsSquare queues.count channels
  pub same : map (map message_of) queues.queues ≡ flat channels

-- it holds of whatever channels they stand for
abbrev pub Each : Queues → (Channels → Type 0) → Type 0
Each queues holds = (channels : Channels) → StandsFor queues channels → holds channels

-- one of so many processes
abbrev pub IsAmong : ℕ → ℕ → Type 0
IsAmong count p = (0 < p) × (p ≤ count)

abbrev pub IsNoPair : ℕ → ℕ → ℕ → Type 0
IsNoPair count p q = IsAmong count p → IsAmong count q → ⊥

-- there may be a message of this number, counted from 1, from one of so many processes to another
abbrev pub HasPlace : ℕ → ℕ → ℕ → ℕ → Type 0
HasPlace count p q i = IsAmong count p × IsAmong count q × (0 < i)

-- what an action sends goes from one of so many processes to one of them
abbrev pub IsSent : ℕ → Action → Type 0
IsSent count (Sent p q time m) = IsAmong count p × IsAmong count q
IsSent count _ = Unit {0}

abbrev pub AreSent : ℕ → List Action → Type 0
AreSent count = AllByRecursion (IsSent count)
