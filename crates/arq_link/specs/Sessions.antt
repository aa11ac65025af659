-- What an endpoint keeps for its peers, and the endpoint for which it stands.
use Rattle.std.specs.Prelude.{ℕ, ◌+◌, List, [], ◌∷◌, map}
use Rattle.std.specs.List.{AllByRecursion, AllByRecursion-prop}
use Rattle.std.specs.Coded.{Coded-set, Unit-prop, coded_list, coded_ℕ}
use Rattle.arq_link.specs.declared.session.Session.{Session}
use Rattle.arq_link.specs.Endpoint.{Peer, Endpoint}
use Rattle.arq_link.specs.Waiting.{AreFrames, numbered}

abbrev pub peer_of : Session → Peer
peer_of session = record { next = session.next; waiting = numbered session.first session.waiting.items; expected = session.expected }

abbrev pub peers_of : List Session → List Peer
peers_of = map peer_of

abbrev pub endpoint_by : List Session → (idle : ℕ) → Endpoint
endpoint_by sessions idle = record { peers = peers_of sessions; idle = idle }

-- what waits are frames of this sender
abbrev pub IsKept : (me : ℕ) → Session → Type 0
IsKept me session = AreFrames me session.first session.waiting.items

abbrev pub AreKept : (me : ℕ) → List Session → Type 0
AreKept me = AllByRecursion (IsKept me)

AreFrames-prop : (me first : ℕ) (frames : List (List ℕ)) → IsProp (AreFrames me first frames)
AreFrames-prop me first [] = Unit-prop
AreFrames-prop me first (frame ∷ frames) = hlevel (Coded-set (coded_list coded_ℕ), AreFrames-prop me (first + 1) frames)

pub AreKept-prop : (me : ℕ) (sessions : List Session) → IsProp (AreKept me sessions)
AreKept-prop me sessions = AllByRecursion-prop (IsKept me) (λ session. AreFrames-prop me session.first session.waiting.items) sessions
