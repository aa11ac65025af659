-- What holds of endpoints and of the frames between them after every call.
use Rattle.std.specs.Prelude.{◌≡◌, ℕ, ◌<◌, ◌≤◌, List, length, take, slice_get, Some}
use Rattle.da_values.specs.Sets.{Has}
use Rattle.arq_link.specs.Endpoint.{Frame, Data, Acknowledgement, Gift, Numbered, Peer, Endpoint, number_limit, peer_at}
use Rattle.arq_link.specs.Net.{Event, Net, IsProcess, gave, handed}
use Rattle.arq_link.proofs.ListLaws.{Each}

-- ONE PEER

-- the payload was given with its number
abbrev pub IsAmong : List (List ℕ) → Numbered → Type 0
IsAmong given entry = slice_get given entry.number ≡ Some entry.payload

abbrev pub Waits : List Numbered → (number : ℕ) → Type 0
Waits waiting number = (payload : List ℕ) × Has waiting (record { number = number; payload = payload })

-- What is kept for a peer to which `out` was given, and which expects the number `reached`; it gave `came`, of which `handed`
-- was handed out here.
pub record Fits (peer : Peer) (reached : ℕ) (out came handed : List (List ℕ)) : Type 0 where
  pub next_within : peer.next ≤ length out
  pub next_is : peer.next < number_limit → peer.next ≡ length out
  pub among : Each (IsAmong out) peer.waiting
  pub waits : (number : ℕ) → reached ≤ number → number < peer.next → Waits peer.waiting number
  pub expected_within : peer.expected ≤ length came
  pub handed_is : handed ≡ take peer.expected came

-- ALL ENDPOINTS

-- what p keeps for q
abbrev pub kept : (ℕ → Endpoint) → (p q : ℕ) → Peer
kept ends p q = peer_at (ends p).peers q

-- a frame that was given: data as its sender gave it, and an acknowledgement of no more than its sender has reached
abbrev pub IsSound : (count : ℕ) → (ℕ → Endpoint) → List Event → (to : ℕ) → Frame → Type 0
IsSound count ends events to (Data sender number payload) = slice_get (gave sender to events) number ≡ Some payload
IsSound count ends events to (Acknowledgement sender number) =
    IsProcess count sender → IsProcess count to → number ≤ (kept ends sender to).expected

abbrev pub AreSound : (count : ℕ) → (ℕ → Endpoint) → List Event → List Gift → Type 0
AreSound count ends events = Each (λ gift. IsSound count ends events gift.to gift.frame)

abbrev pub FitsAt : Net → (p q : ℕ) → Type 0
FitsAt net p q = Fits (kept net.ends p q) (kept net.ends q p).expected (gave p q net.events) (gave q p net.events) (handed p q net.events)

pub record IsWell (count : ℕ) (net : Net) : Type 0 where
  pub counts : (p : ℕ) → IsProcess count p → length (net.ends p).peers ≡ count
  pub fits : (p q : ℕ) → IsProcess count p → IsProcess count q → FitsAt net p q
  pub sound : AreSound count net.ends net.events net.given
