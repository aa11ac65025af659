-- What a reliable link tells, as it is made from what the link under it tells.
use Rattle.std.specs.Prelude.{ℕ, ◌≡◌, ◌⊎◌, ◌&&◌, ◌==◌, Bool, true, false, List, [], ◌∷◌, ◌++◌, drop, fold, Option, Some, None, ⊤, refl}
use Rattle.std.specs.Str.{bytes_eq}
use Rattle.std.specs.Coded.{Coded, Coded-set, code_by, coded_ℕ, coded×, coded⊎, coded_list, coded_bool, Unit-prop}
use mathlib.Core.Logic.{inl, inr}
use Rattle.da_outside.specs.declared.link.LinkAnswer.{LinkAnswer}
use Rattle.da_outside.specs.declared.link.LinkAnswer.TheVariants as answers
use Rattle.da_outside.specs.declared.link.LinkEntry.{LinkEntry}
use Rattle.da_outside.specs.declared.link.LinkEntry.TheVariants.{Bound, Answered, Gave}
use Rattle.arq_link.specs.Endpoint.{Frame, Data, Acknowledgement, Gift, Arrival, NothingCame, Numbered, Peer, Endpoint, Delivery}
use Rattle.arq_link.specs.Endpoint.{Turn, new_endpoint, give_turn, take_turn}
use Rattle.arq_link.specs.Frames.{frame_bytes, frame_of, arrival_of}

-- what an answer of the inner link is to an endpoint
abbrev pub arrival_by : LinkAnswer → Arrival
arrival_by (answers.Datagram bytes) = arrival_of (frame_of bytes)
arrival_by answers.Nothing = NothingCame

-- what an endpoint answers
abbrev pub answer_by : Option Delivery → LinkAnswer
answer_by None = answers.Nothing
answer_by (Some delivery) = answers.Datagram delivery.payload

-- what the inner link tells of a gift
abbrev pub gift_entry : Gift → LinkEntry
gift_entry gift = Gave gift.to (frame_bytes gift.frame)

-- THE ENTRIES OF THE INNER LINK, one after the other

-- What is made of the entries so far: of which process they are, its endpoint after the calls that are whole, and what these
-- calls told. Of a call that is not whole these gifts are owed still; then it leads to another endpoint, and tells its answer.
-- All is due as long as each gift was the one that was due, and no answer came while gifts were owed.
pub record Retelling : Type 0 where
  pub me : ℕ
  pub endpoint : Endpoint
  pub told : List LinkEntry
  pub owed : List Gift
  pub later : Endpoint
  pub answer : LinkEntry
  pub due : Bool

-- no call is under way
abbrev pub settled : (due : Bool) → (me : ℕ) → Endpoint → (told : List LinkEntry) → Retelling
settled due me endpoint told = record {
  me = me;
  endpoint = endpoint;
  told = told;
  owed = [];
  later = endpoint;
  answer = Answered answers.Nothing;
  due = due;
}

abbrev pub are_none : List Gift → Bool
are_none [] = true
are_none (gift ∷ gifts) = false

-- an answer begins a turn, with these gifts
abbrev pub answered : Retelling → Turn → List Gift → Retelling
answered r turn [] = settled (r.due && are_none r.owed) r.me turn.after (r.told ++ Answered (answer_by turn.delivers) ∷ [])
answered r turn (gift ∷ gifts) = record {
  me = r.me;
  endpoint = r.endpoint;
  told = r.told;
  owed = gift ∷ gifts;
  later = turn.after;
  answer = Answered (answer_by turn.delivers);
  due = r.due && are_none r.owed;
}

abbrev pub is_gift : Gift → (to : ℕ) → List ℕ → Bool
is_gift gift to bytes = (to == gift.to) && bytes_eq bytes (frame_bytes gift.frame)

abbrev pub is_only_gift : List Gift → (to : ℕ) → List ℕ → Bool
is_only_gift [] to bytes = false
is_only_gift (gift ∷ gifts) to bytes = is_gift gift to bytes && are_none gifts

-- a gift that no answer owes is that of a payload, which stands after the header
abbrev pub gave_on : Retelling → List Gift → (to : ℕ) → List ℕ → Retelling
gave_on r [] to bytes =
    settled (r.due && is_only_gift (give_turn r.me r.endpoint to (drop 14 bytes)).gifts to bytes) r.me
    (give_turn r.me r.endpoint to (drop 14 bytes)).after (r.told ++ Gave to (drop 14 bytes) ∷ [])
gave_on r (gift ∷ []) to bytes = settled (r.due && is_gift gift to bytes) r.me r.later (r.told ++ r.answer ∷ [])
gave_on r (gift ∷ next ∷ gifts) to bytes = record {
  me = r.me;
  endpoint = r.endpoint;
  told = r.told;
  owed = next ∷ gifts;
  later = r.later;
  answer = r.answer;
  due = r.due && is_gift gift to bytes;
}

-- a binding begins all anew
abbrev pub goes_on : Retelling → LinkEntry → Retelling
goes_on r (Bound port me count) = settled true me (new_endpoint count) (Bound port me count ∷ [])
goes_on r (Answered answer) = answered r (take_turn r.me r.endpoint (arrival_by answer)) (take_turn r.me r.endpoint (arrival_by answer)).gifts
goes_on r (Gave to bytes) = gave_on r r.owed to bytes

-- before a binding nothing is due
abbrev pub retelling : List LinkEntry → Retelling
retelling entries = fold goes_on (settled false 0 (new_endpoint 0) []) entries

-- what a reliable link tells where the inner link tells these entries
abbrev pub retold : List LinkEntry → List LinkEntry
retold entries = (retelling entries).told

-- each gift among the entries since the last binding was the one that was due, and none is missing but in the last call
abbrev pub AreDue : List LinkEntry → Type 0
AreDue entries = (retelling entries).due ≡ true

-- the entries lead to this endpoint of this process, and their calls are whole
pub record LeadsTo (me : ℕ) (endpoint : Endpoint) (entries : List LinkEntry) : Type 0 where
  pub mine : (retelling entries).me ≡ me
  pub leads : (retelling entries).endpoint ≡ endpoint
  pub whole : (retelling entries).owed ≡ []
  pub due : AreDue entries

-- WHERE THE INNER LINK TELLS

abbrev pub TellsOf : (me : ℕ) → Endpoint → Option (List LinkEntry) → Type 0
TellsOf me endpoint None = ⊤
TellsOf me endpoint (Some entries) = LeadsTo me endpoint entries

abbrev pub TellsDue : Option (List LinkEntry) → Type 0
TellsDue None = ⊤
TellsDue (Some entries) = AreDue entries

-- THESE ARE FACTS, of which there is one proof

coded_numbered : Coded Numbered
coded_numbered = code_by (ℕ × List ℕ) (coded× coded_ℕ (coded_list coded_ℕ))
    (λ x. (x.number, x.payload)) (λ y. record { number = y.0; payload = y.1 }) (λ _. refl)

coded_peer : Coded Peer
coded_peer = code_by (ℕ × (List Numbered × ℕ)) (coded× coded_ℕ (coded× (coded_list coded_numbered) coded_ℕ)) (λ x. (x.next, (x.waiting, x.expected)))
    (λ y. record { next = y.0; waiting = y.1.0; expected = y.1.1 }) (λ _. refl)

coded_endpoint : Coded Endpoint
coded_endpoint = code_by (List Peer × ℕ) (coded× (coded_list coded_peer) coded_ℕ) (λ x. (x.peers, x.idle)) (λ y. record { peers = y.0; idle = y.1 }) (λ _. refl)

coded_frame : Coded Frame
coded_frame = code_by ((ℕ × (ℕ × List ℕ)) ⊎ (ℕ × ℕ))
    (coded⊎ (coded× coded_ℕ (coded× coded_ℕ (coded_list coded_ℕ))) (coded× coded_ℕ coded_ℕ)) parts frame frame-parts
  where
    parts : Frame → (ℕ × (ℕ × List ℕ)) ⊎ (ℕ × ℕ)
    parts (Data sender number payload) = inl (sender, (number, payload))
    parts (Acknowledgement sender number) = inr (sender, number)

    frame : (ℕ × (ℕ × List ℕ)) ⊎ (ℕ × ℕ) → Frame
    frame (inl (sender, (number, payload))) = Data sender number payload
    frame (inr (sender, number)) = Acknowledgement sender number

    frame-parts : (f : Frame) → frame (parts f) ≡ f
    frame-parts (Data sender number payload) = refl
    frame-parts (Acknowledgement sender number) = refl

coded_gift : Coded Gift
coded_gift = code_by (ℕ × Frame) (coded× coded_ℕ coded_frame) (λ x. (x.to, x.frame)) (λ y. record { to = y.0; frame = y.1 }) (λ _. refl)

LeadsTo-prop : (me : ℕ) (endpoint : Endpoint) (entries : List LinkEntry) → IsProp (LeadsTo me endpoint entries)
LeadsTo-prop me endpoint entries = hlevel (Coded-set coded_ℕ, Coded-set coded_endpoint, Coded-set (coded_list coded_gift), Coded-set coded_bool)

pub TellsOf-prop : (me : ℕ) (endpoint : Endpoint) (entries : Option (List LinkEntry)) → IsProp (TellsOf me endpoint entries)
TellsOf-prop me endpoint None = Unit-prop
TellsOf-prop me endpoint (Some entries) = LeadsTo-prop me endpoint entries

pub TellsDue-prop : (entries : Option (List LinkEntry)) → IsProp (TellsDue entries)
TellsDue-prop None = Unit-prop
TellsDue-prop (Some entries) = Coded-set coded_bool _ _
