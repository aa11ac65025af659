-- Channels: for each ordered pair of processes the messages in flight.
--
-- They stand in a list by the sender, of lists by the recipient, as the processes of a system do. So there is a channel
-- for each pair of processes and for no other, and channels with the same messages are equal.
use Rattle.std.specs.Prelude.{ℕ, zero, suc, Bool, true, false, not, ◌&&◌, ◌==◌, if◌then◌else◌, List, [], ◌∷◌, ◌++◌, replicate, remove, slice_set, Option, Some, None}
use Rattle.da_values.specs.declared.val.Val.{Val}
use Rattle.da_values.specs.Value.{val_of}
use Rattle.da_lang.specs.declared.event.Action.{Action}
use Rattle.da_lang.specs.declared.event.Action.TheVariants.{Sent}
use Rattle.da_lang.specs.declared.ty.ChannelKind.{ChannelKind}
use Rattle.da_lang.specs.declared.ty.ChannelKind.TheVariants.{FifoReliable, FifoUnreliable, UnorderedUnreliable}
use Rattle.da_lang.specs.World.{at_number}

-- a message in flight, with the time of its sending
pub record MessageInFlight : Type 0 where
  pub message : Val
  pub time : ℕ

-- the messages of each channel, the eldest first
abbrev pub Channels : Type 0
Channels = List (List (List MessageInFlight))

-- a list, empty where there is none
abbrev pub or_empty : {A : Type 0} → Option (List A) → List A
or_empty None = []
or_empty (Some members) = members

-- with another member of this number, counted from 1, where there is one
abbrev pub put_numbered : {A : Type 0} → List A → ℕ → A → List A
put_numbered members zero x = members
put_numbered members (suc place) x = slice_set members place x

-- without the member of this number, counted from 1
abbrev pub without_numbered : {A : Type 0} → List A → ℕ → List A
without_numbered members zero = members
without_numbered members (suc place) = remove members place

-- the channels of so many processes before any event
abbrev pub no_messages : ℕ → Channels
no_messages count = replicate count (replicate count [])

-- the channel from p to q
abbrev pub channel : Channels → ℕ → ℕ → List MessageInFlight
channel channels p q = or_empty (at_number (or_empty (at_number channels p)) q)

-- with these messages as the channel from p to q
abbrev pub with_channel : Channels → ℕ → ℕ → List MessageInFlight → Channels
with_channel channels p q messages = put_numbered channels p (put_numbered (or_empty (at_number channels p)) q messages)

-- a message goes to the end of its channel
abbrev pub with_message : Channels → ℕ → ℕ → MessageInFlight → Channels
with_message channels p q message = with_channel channels p q (channel channels p q ++ message ∷ [])

-- message i leaves its channel
abbrev pub without_message : Channels → ℕ → ℕ → ℕ → Channels
without_message channels p q i = with_channel channels p q (without_numbered (channel channels p q) i)

-- a message that an action sends goes into its channel
abbrev pub after_action : Channels → Action → Channels
after_action channels (Sent p q time m) = with_message channels p q (record { message = val_of m; time = time })
after_action channels _ = channels

-- those that actions send, one after the other
abbrev pub after_actions : Channels → List Action → Channels
after_actions channels [] = channels
after_actions channels (a ∷ others) = after_actions (after_action channels a) others

-- WHAT A KIND OF CHANNEL ALLOWS

abbrev pub is_fifo : ChannelKind → Bool
is_fifo FifoReliable = true
is_fifo FifoUnreliable = true
is_fifo _ = false

abbrev pub is_unreliable : ChannelKind → Bool
is_unreliable FifoUnreliable = true
is_unreliable UnorderedUnreliable = true
is_unreliable _ = false

-- message i may arrive: in a fifo kind only the first
abbrev pub may_arrive : ChannelKind → ℕ → Bool
may_arrive kind i = if is_fifo kind then i == 1 else true

-- messages may be lost
abbrev pub may_lose : ChannelKind → Bool
may_lose kind = is_unreliable kind

-- messages may be doubled
abbrev pub may_repeat : ChannelKind → Bool
may_repeat kind = is_unreliable kind && not (is_fifo kind)
