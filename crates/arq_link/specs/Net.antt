-- Endpoints over a network that loses, repeats and reorders frames, and what holds of every run of them.
use Rattle.std.specs.Prelude.{◌≡◌, ℕ, ◌<◌, ◌≤◌, ◌&&◌, ◌==◌, if◌then◌else◌, List, [], ◌∷◌, ◌++◌, length, slice_get, take, flat_map, Option, Some, None}
use Rattle.da_values.specs.Sets.{Has}
use Rattle.arq_link.specs.Endpoint.{Gift, Arrival, FrameCame, OtherCame, NothingCame, Endpoint, Delivery, Turn, new_endpoint, number_limit, peer_at}
use Rattle.arq_link.specs.Endpoint.{give_turn, take_turn}

-- CALLS

pub data Call : Type 0 where
  Give : (to : ℕ) (payload : List ℕ) → Call
  Take : Arrival → Call

abbrev pub turn_of : (me : ℕ) → Endpoint → Call → Turn
turn_of me e (Give to payload) = give_turn me e to payload
turn_of me e (Take arrival) = take_turn me e arrival

-- what users of the endpoints see: that one process gave a payload to another, or that one was handed a payload of another
pub data Event : Type 0 where
  Gave : (giver to : ℕ) (payload : List ℕ) → Event
  WasHanded : (taker sender : ℕ) (payload : List ℕ) → Event

abbrev pub events_of : (me : ℕ) → Call → Option Delivery → List Event
events_of me (Give to payload) delivers = Gave me to payload ∷ []
events_of me (Take arrival) None = []
events_of me (Take arrival) (Some delivery) = WasHanded me delivery.sender delivery.payload ∷ []

-- THE NETWORK

-- all endpoints, all frames that were ever given, and what happened so far
pub record Net : Type 0 where
  pub ends : ℕ → Endpoint
  pub given : List Gift
  pub events : List Event

abbrev pub opening : (count : ℕ) → Net
opening count = record { ends = λ p. new_endpoint count; given = []; events = [] }

abbrev pub put : (ℕ → Endpoint) → ℕ → Endpoint → ℕ → Endpoint
put ends p e q = if p == q then e else ends q

-- the call of p succeeds
abbrev pub after_turn : Net → (p : ℕ) → Call → Turn → Net
after_turn net p call turn = record {
  ends = put net.ends p turn.after;
  given = net.given ++ turn.gifts;
  events = net.events ++ events_of p call turn.delivers;
}

-- the inner link fails in it after so many gifts: the peers stay
abbrev pub after_cut : Net → (p : ℕ) → Turn → (given : ℕ) → Net
after_cut net p turn given = record {
  ends = put net.ends p (record { peers = (net.ends p).peers; idle = turn.after.idle });
  given = net.given ++ take given turn.gifts;
  events = net.events;
}

abbrev pub IsProcess : (count : ℕ) → ℕ → Type 0
IsProcess count p = (1 ≤ p) × (p ≤ count)

-- a frame that comes was given for this process at some time; nothing, or bytes that are no frame, may come at any time
abbrev pub MayCall : (count : ℕ) → Net → ℕ → Call → Type 0
MayCall count net p (Give to payload) = IsProcess count to
MayCall count net p (Take (FrameCame frame)) = Has net.given (record { to = p; frame = frame })
MayCall count net p (Take OtherCame) = Unit {0}
MayCall count net p (Take NothingCame) = Unit {0}

-- a call that succeeds, one in which a gift fails, or one that fails before the inner link answered anything
pub data Goes (count : ℕ) (net : Net) : Net → Type 0 where
  succeeds : (p : ℕ) (call : Call) → IsProcess count p → MayCall count net p call
      → Goes count net (after_turn net p call (turn_of p (net.ends p) call))
  is_cut : (p : ℕ) (call : Call) (given : ℕ) → IsProcess count p → MayCall count net p call
      → given < length (turn_of p (net.ends p) call).gifts → Goes count net (after_cut net p (turn_of p (net.ends p) call) given)
  fails : Goes count net net

pub data Runs (count : ℕ) : Net → Type 0 where
  begins : Runs count (opening count)
  goes : (net net' : Net) → Runs count net → Goes count net net' → Runs count net'

-- WHAT HOLDS OF EVERY RUN

-- the payloads that p gave to q, and those of q that p was handed
abbrev pub gave_in : (p q : ℕ) → Event → List (List ℕ)
gave_in p q (Gave giver to payload) = if (giver == p) && (to == q) then payload ∷ [] else []
gave_in p q (WasHanded taker sender payload) = []

abbrev pub handed_in : (p q : ℕ) → Event → List (List ℕ)
handed_in p q (Gave giver to payload) = []
handed_in p q (WasHanded taker sender payload) = if (taker == p) && (sender == q) then payload ∷ [] else []

abbrev pub gave : (p q : ℕ) → List Event → List (List ℕ)
gave p q = flat_map (gave_in p q)

abbrev pub handed : (p q : ℕ) → List Event → List (List ℕ)
handed p q = flat_map (handed_in p q)

abbrev pub IsPrefix : {A : Type 0} → List A → List A → Type 0
IsPrefix {A} front whole = (rest : List A) × (whole ≡ front ++ rest)

-- of each sender a process has been handed the beginning of what this one gave to it, and nothing else
abbrev pub ArrivesInOrder : Type 0
ArrivesInOrder = (count : ℕ) (net : Net) → Runs count net → (p q : ℕ) → IsProcess count p → IsProcess count q
    → IsPrefix (handed p q net.events) (gave q p net.events)

-- what was given, has a number and was not handed out yet still waits with its sender
abbrev pub Remains : Type 0
Remains = (count : ℕ) (net : Net) → Runs count net → (p q : ℕ) → IsProcess count p → IsProcess count q → (n : ℕ)
    → length (handed q p net.events) ≤ n → n < length (gave p q net.events) → n < number_limit
    → (payload : List ℕ) × (slice_get (gave p q net.events) n ≡ Some payload)
    × Has (peer_at (net.ends p).peers q).waiting (record { number = n; payload = payload })
