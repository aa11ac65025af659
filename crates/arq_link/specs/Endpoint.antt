-- An endpoint of a reliable link: what it keeps for each peer, and what each of its calls does.
use Rattle.std.specs.Prelude.{ℕ, ◌+◌, ◌-◌, ◌^◌, ◌&&◌, ◌==◌, nat_le, nat_lt, Bool, if◌then◌else◌, List, [], ◌∷◌, ◌++◌, length, get_or, set, filter}
use Rattle.std.specs.Prelude.{replicate, Option, Some, None}

-- the numbers of payloads are below this one
unfoldable pub number_limit : ℕ
number_limit = 2 ^ 64 - 1

-- FRAMES

-- a payload with its number, or the number that its sender expects next
pub data Frame : Type 0 where
  Data : (sender number : ℕ) (payload : List ℕ) → Frame
  Acknowledgement : (sender number : ℕ) → Frame

abbrev pub sender_of : Frame → ℕ
sender_of (Data sender number payload) = sender
sender_of (Acknowledgement sender number) = sender

-- a frame, and the process for which the inner link is given it
pub record Gift : Type 0 where
  pub to : ℕ
  pub frame : Frame

-- what the inner link answers: a frame, bytes that are none, or that nothing is there
pub data Arrival : Type 0 where
  FrameCame : Frame → Arrival
  OtherCame : Arrival
  NothingCame : Arrival

-- WHAT IS KEPT

-- a payload that was given and not acknowledged, with its number
pub record Numbered : Type 0 where
  pub number : ℕ
  pub payload : List ℕ

-- for a peer: the number of the next payload for it, those that wait for its acknowledgement, and the number expected from it
pub record Peer : Type 0 where
  pub next : ℕ
  pub waiting : List Numbered
  pub expected : ℕ

abbrev pub new_peer : Peer
new_peer = record { next = 0; waiting = []; expected = 0 }

-- the peers, numbered from 1, and how often in a row nothing was there, counted anew from each hundredth time
pub record Endpoint : Type 0 where
  pub peers : List Peer
  pub idle : ℕ

abbrev pub new_endpoint : (count : ℕ) → Endpoint
new_endpoint count = record { peers = replicate count new_peer; idle = 0 }

abbrev pub peer_at : List Peer → ℕ → Peer
peer_at peers process = get_or peers (process - 1) new_peer

abbrev pub with_peer : List Peer → ℕ → Peer → List Peer
with_peer peers process peer = set peers (process - 1) peer

abbrev pub is_peer : Endpoint → ℕ → Bool
is_peer e process = nat_le 1 process && nat_le process (length e.peers)

-- TURNS

pub record Delivery : Type 0 where
  pub sender : ℕ
  pub payload : List ℕ

-- What a call does where the inner link does not fail: the endpoint after it, what the inner link is given, in order, and the
-- payload that is handed out.
pub record Turn : Type 0 where
  pub after : Endpoint
  pub gifts : List Gift
  pub delivers : Option Delivery

-- nothing is given and nothing is handed out
abbrev pub quiet_turn : Endpoint → Turn
quiet_turn after = record { after = after; gifts = []; delivers = None }

abbrev pub counted : Endpoint → (idle : ℕ) → Endpoint
counted e idle = record { peers = e.peers; idle = idle }

-- GIVE

abbrev pub appended : Peer → List ℕ → Peer
appended peer payload = record {
  next = peer.next + 1;
  waiting = peer.waiting ++ record { number = peer.next; payload = payload } ∷ [];
  expected = peer.expected;
}

abbrev pub give_turn : (me : ℕ) → Endpoint → (to : ℕ) → List ℕ → Turn
give_turn me e to payload = if nat_lt (peer_at e.peers to).next number_limit
    then record {
      after = record { peers = with_peer e.peers to (appended (peer_at e.peers to) payload); idle = e.idle };
      gifts = record { to = to; frame = Data me (peer_at e.peers to).next payload } ∷ [];
      delivers = None;
    }
    else quiet_turn e

-- TAKE

-- data is handed out where its number is expected, and acknowledged in any case
abbrev pub is_due : Peer → ℕ → Bool
is_due peer number = (number == peer.expected) && nat_lt number number_limit

abbrev pub expecting : Peer → ℕ → Peer
expecting peer number = record { next = peer.next; waiting = peer.waiting; expected = number }

abbrev pub data_turn : (me : ℕ) → Endpoint → (sender number : ℕ) → List ℕ → Turn
data_turn me e sender number payload = if is_due (peer_at e.peers sender) number
    then record {
      after = record { peers = with_peer e.peers sender (expecting (peer_at e.peers sender) (number + 1)); idle = 0 };
      gifts = record { to = sender; frame = Acknowledgement me (number + 1) } ∷ [];
      delivers = Some (record { sender = sender; payload = payload });
    }
    else record {
      after = counted e 0;
      gifts = record { to = sender; frame = Acknowledgement me (peer_at e.peers sender).expected } ∷ [];
      delivers = None;
    }

-- what is below an acknowledgement waits no longer
abbrev pub acknowledged : Peer → ℕ → Peer
acknowledged peer number = record {
  next = peer.next;
  waiting = filter (λ entry. nat_le number entry.number) peer.waiting;
  expected = peer.expected;
}

abbrev pub acknowledgement_turn : Endpoint → (sender number : ℕ) → Turn
acknowledgement_turn e sender number = if nat_le number (peer_at e.peers sender).next
    then quiet_turn (record { peers = with_peer e.peers sender (acknowledged (peer_at e.peers sender) number); idle = 0 })
    else quiet_turn (counted e 0)

abbrev pub frame_turn : (me : ℕ) → Endpoint → Frame → Turn
frame_turn me e (Data sender number payload) = data_turn me e sender number payload
frame_turn me e (Acknowledgement sender number) = acknowledgement_turn e sender number

-- the first of what waits for each peer, where the first of these peers has this number
abbrev pub first_again : (me to : ℕ) → List Numbered → List Gift
first_again me to [] = []
first_again me to (entry ∷ entries) = record { to = to; frame = Data me entry.number entry.payload } ∷ []

abbrev pub again_from : (me to : ℕ) → List Peer → List Gift
again_from me to [] = []
again_from me to (peer ∷ peers) = first_again me to peer.waiting ++ again_from me (to + 1) peers

abbrev pub idle_turn : (me : ℕ) → Endpoint → Turn
idle_turn me e = if e.idle + 1 == 100
    then record { after = counted e 0; gifts = again_from me 1 e.peers; delivers = None }
    else quiet_turn (counted e (e.idle + 1))

abbrev pub take_turn : (me : ℕ) → Endpoint → Arrival → Turn
take_turn me e (FrameCame frame) = if is_peer e (sender_of frame) then frame_turn me e frame else quiet_turn (counted e 0)
take_turn me e OtherCame = quiet_turn (counted e 0)
take_turn me e NothingCame = idle_turn me e
