-- Processes that cannot go on along their traces, and those that are asked again.
use Rattle.std.specs.Prelude.{◌≡◌, ◌⊎◌, ℕ, Bool, true, List, [], ◌∷◌, Some}
use Rattle.da_values.specs.Sets.{Has}
use Rattle.da_values.specs.Value.{val_of}
use Rattle.da_lang.specs.declared.event.Action.{Action}
use Rattle.da_lang.specs.declared.event.Action.TheVariants.{Got}
use Rattle.da_lang.specs.declared.ty.ChannelKind.{ChannelKind}
use Rattle.da_lang.specs.World.{at_number}
use Rattle.da_system.specs.Channels.{Channels, MessageInFlight, channel}
use Rattle.trace_join.specs.declared.track.Track.{Track}
use Rattle.trace_join.specs.Remains.{CanArrive}
use Rattle.trace_join.specs.Traces.{message_from, messages_to}

-- the trace of process p goes on with a message that cannot arrive
abbrev pub CannotGet : ChannelKind → Channels → ℕ → List Action → Type 0
CannotGet kind channels p (Got q from time m ∷ behind) = CanArrive kind (channel channels from p) (record { message = val_of m; time = time }) → ⊥
CannotGet kind channels p _ = ⊥

-- process p has no step left, or waits for a message that cannot arrive
abbrev pub Waits : ChannelKind → Channels → ℕ → Track → Type 0
Waits kind channels p t = (t.pieces.now ≡ []) ⊎ CannotGet kind channels p t.left.now

-- the message from process `from` that a trace goes on with
abbrev pub wanted_from : ℕ → List Action → List MessageInFlight
wanted_from from [] = []
wanted_from from (a ∷ behind) = message_from from a

-- a process that still waits, waited before, and was not sent the message that it waits for by these actions
abbrev pub AreWoken : ℕ → List Action → List Track → (waits waits' : List Bool) → Type 0
AreWoken me told tracks waits waits' =
    (p : ℕ) (t : Track) → at_number tracks p ≡ Some t → at_number waits' p ≡ Some true
    → (at_number waits p ≡ Some true) × ((l : MessageInFlight) → Has (messages_to p told) l → Has (wanted_from me t.left.now) l → ⊥)
