-- What processes send goes into their channels.
use Rattle.std.specs.Prelude.{◌≡◌, ℕ, ◌<◌, ◌≤◌, ◌==◌, if◌then◌else◌, List, [], ◌∷◌, ◌++◌, length}
use Rattle.da_lang.specs.declared.event.Action.{Action}
use Rattle.da_lang.specs.World.{at_number}
use Rattle.da_system.specs.Channels.{Channels, MessageInFlight, channel, or_empty}
use Rattle.trace_join.specs.Traces.{messages_to}

-- one of so many processes
abbrev pub IsOneOf : ℕ → ℕ → Type 0
IsOneOf count p = (0 < p) × (p ≤ count)

-- of the channels from one process, that to process q
abbrev pub channel_to : List (List MessageInFlight) → ℕ → List MessageInFlight
channel_to row q = or_empty (at_number row q)

-- what the process sends by these actions goes to the ends of its channels
abbrev pub SendsFromOne : List Action → (row row' : List (List MessageInFlight)) → Type 0
SendsFromOne actions row row' = (q : ℕ) → IsOneOf (length row) q → channel_to row' q ≡ channel_to row q ++ messages_to q actions

-- what process `me` sends by these actions goes to the ends of its channels
abbrev pub Sends : ℕ → List Action → (channels channels' : Channels) → Type 0
Sends me actions channels channels' =
    (p q : ℕ) → IsOneOf (length channels) q → channel channels' p q ≡ channel channels p q ++ (if p == me then messages_to q actions else [])

-- but for one channel nothing has changed
abbrev pub SameElsewhere : (from to : ℕ) → (channels channels' : Channels) → Type 0
SameElsewhere from to channels channels' = (p q : ℕ) → ((p ≡ from) × (q ≡ to) → ⊥) → channel channels' p q ≡ channel channels p q

-- a message goes to the end of the channel to process `to`
abbrev pub Pushes : (row row' : List (List MessageInFlight)) → (to : ℕ) → MessageInFlight → Type 0
Pushes row row' to l = (q : ℕ) → IsOneOf (length row) q → channel_to row' q ≡ channel_to row q ++ (if q == to then l ∷ [] else [])
