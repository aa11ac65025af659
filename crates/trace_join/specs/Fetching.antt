-- How a message leaves its channel, and the events of it.
use Rattle.std.specs.Prelude.{◌≡◌, ℕ, Bool, true, false, MatchBool, List, [], ◌∷◌, ◌++◌, length, replicate, Some}
use Rattle.da_values.specs.declared.val.Val.TheVariants as val
use Rattle.da_values.specs.Sets.{Has}
use Rattle.da_values.specs.Value.{val_of}
use Rattle.da_lang.specs.declared.event.Action.{Action}
use Rattle.da_lang.specs.declared.event.Action.TheVariants.{Sent, Got}
use Rattle.da_lang.specs.declared.event.Event.{Event}
use Rattle.da_lang.specs.declared.event.Event.TheVariants.{Deliver, Lose, Repeat}
use Rattle.da_lang.specs.declared.ty.ChannelKind.{ChannelKind}
use Rattle.da_lang.specs.declared.ty.ChannelKind.TheVariants.{FifoReliable, UnorderedReliable, FifoUnreliable, UnorderedUnreliable}
use Rattle.da_lang.specs.World.{at_number}
use Rattle.da_system.specs.Channels.{MessageInFlight, without_numbered}
use Rattle.trace_join.specs.declared.fetch.Wanted.{Wanted}
use Rattle.trace_join.specs.Remains.{CanArrive}

abbrev pub IsSent : Action → Type 0
IsSent (Sent p q time m) = Unit {0}
IsSent _ = ⊥

abbrev pub IsGot : Action → Type 0
IsGot (Got q p time m) = Unit {0}
IsGot _ = ⊥

-- the message that an action sends or gets
abbrev pub message_in : Action → MessageInFlight
message_in (Sent p q time m) = record { message = val_of m; time = time }
message_in (Got q p time m) = record { message = val_of m; time = time }
message_in _ = record { message = val.Proc 0; time = 0 }

-- the first message like this one stands after so many others
pub record IsFirst (messages : List MessageInFlight) (l : MessageInFlight) (place : ℕ) : Type 0 where
  pub front : List MessageInFlight
  pub back : List MessageInFlight
  pub cut : messages ≡ front ++ l ∷ back
  pub size : place ≡ length front
  pub none : Has front l → ⊥

-- The message leaves the channel from p to q, by these events. In `fifo unreliable` those before it are lost first, and
-- in `unordered unreliable` it is doubled before, where that is asked.
abbrev pub Fetched : ChannelKind → (p q : ℕ) → MessageInFlight → (again : Bool) → (old new : List MessageInFlight) → List Event → Type 0
Fetched FifoReliable p q l again old new events = (old ≡ l ∷ new) × (events ≡ Deliver p q 1 ∷ [])
Fetched UnorderedReliable p q l again old new events =
    (i : ℕ) × (at_number old i ≡ Some l) × (new ≡ without_numbered old i) × (events ≡ Deliver p q i ∷ [])
Fetched FifoUnreliable p q l again old new events =
    (front : List MessageInFlight) × (old ≡ front ++ l ∷ new) × (Has front l → ⊥) × (events ≡ replicate (length front) (Lose p q 1) ++ Deliver p q 1 ∷ [])
Fetched UnorderedUnreliable p q l again old new events =
    (i : ℕ) × (at_number old i ≡ Some l)
    × MatchBool again
    ((new ≡ without_numbered (old ++ l ∷ []) i) × (events ≡ Repeat p q i ∷ Deliver p q i ∷ []))
    ((new ≡ without_numbered old i) × (events ≡ Deliver p q i ∷ []))

-- Where the message that is waited for was found, it has left, and the events of it were added. Else it cannot arrive, and
-- nothing has changed.
abbrev pub Fetches : ChannelKind → Wanted → (found : Bool) → (old new : List MessageInFlight) → (events events' : List Event) → Type 0
Fetches kind w true old new events events' =
    (added : List Event) × (events' ≡ events ++ added) × Fetched kind w.from w.to (message_in w.got.now) w.again old new added
Fetches kind w false old new events events' = (CanArrive kind old (message_in w.got.now) → ⊥) × (new ≡ old) × (events' ≡ events)
