-- The packets that a node holds: which of them stay, and which is delivered next.
use Rattle.std.specs.Prelude.{ℕ, ◌==◌, nat_le, Bool, true, false, not, ◌&&◌, if◌then◌else◌, List, [], ◌∷◌, ◌++◌, length, Option, Some, None, is_some}
use Rattle.std.specs.List.{list_any}
use Rattle.da_values.specs.declared.val.Val.{Val}
use Rattle.da_lang.specs.declared.program.Program.{Program}
use Rattle.da_lang.specs.declared.ty.ChannelKind.{ChannelKind}
use Rattle.da_lang.specs.declared.ty.ChannelKind.TheVariants.{FifoReliable, FifoUnreliable, UnorderedUnreliable}
use Rattle.da_lang.specs.Steps.{Step, Deliver, proc_step}
use Rattle.da_lang.specs.World.{World}

-- a held packet: a message with its sender and the time of its sending
pub record Held : Type 0 where
  pub message : Val
  pub sender : ℕ
  pub time : ℕ

-- a kind in which messages arrive in the order of their sending, and one in which some never arrive
abbrev pub is_fifo : ChannelKind → Bool
is_fifo FifoReliable = true
is_fifo FifoUnreliable = true
is_fifo _ = false

abbrev pub is_unreliable : ChannelKind → Bool
is_unreliable FifoUnreliable = true
is_unreliable UnorderedUnreliable = true
is_unreliable _ = false

-- WHICH PACKETS STAY

abbrev pub most_held : ℕ
most_held = 1024

-- these packets and one that comes in: in an unreliable kind it is dropped where so many are held
abbrev pub held_with : ChannelKind → List Held → Held → List Held
held_with kind held x = if is_unreliable kind && nat_le most_held (length held) then held else held ++ x ∷ []

-- WHICH IS DELIVERED

abbrev pub arrival_of : Held → Step
arrival_of x = Deliver x.message x.sender x.time

-- the process may take the packet in: it waits, and takes such a message from such a sender there
abbrev pub may_come : Program → World → Held → Bool
may_come program w x = is_some (proc_step program w (arrival_of x))

-- in a fifo kind none of the packets before it has its sender
abbrev pub goes_first : ChannelKind → List Held → Held → Bool
goes_first kind before x = not (is_fifo kind && list_any (λ y. y.sender == x.sender) before)

-- the first of these packets, after those before, that is delivered; and what is held without it
abbrev pub find_held : Program → World → List Held → List Held → Option (Held × List Held)
find_held program w before [] = None
find_held program w before (x ∷ later) =
    if goes_first program.kind before x && may_come program w x then Some (x, before ++ later) else find_held program w (before ++ x ∷ []) later
