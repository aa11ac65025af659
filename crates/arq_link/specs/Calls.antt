-- The calls of an endpoint: what its inner link tells of them, and what they tell.
use Rattle.std.specs.Prelude.{◌≡◌, ◌⊎◌, ℕ, ◌<◌, List, [], ◌∷◌, ◌++◌, length, map, take, Option, Some, None, ⊤}
use Rattle.da_outside.specs.declared.link.LinkAnswer.{LinkAnswer}
use Rattle.da_outside.specs.declared.link.LinkEntry.{LinkEntry}
use Rattle.da_outside.specs.declared.link.LinkEntry.TheVariants.{Bound, Answered, Gave}
use Rattle.arq_link.specs.Endpoint.{Endpoint, new_endpoint, number_limit, peer_at, give_turn, take_turn}
use Rattle.arq_link.specs.Telling.{answer_by, arrival_by, gift_entry}

-- Calls of process `me` one after the other, which lead its endpoint from `first` to another one. The inner link tells of each
-- `take` its answer, and then the gifts of the turn by this answer, and of each `give` the gifts of its turn.
pub data Calls (me : ℕ) (first : Endpoint) : (inner told : List LinkEntry) → Endpoint → Type 0 where
  none : Calls me first [] [] first
  takes : (inner told : List LinkEntry) (e : Endpoint) (answer : LinkAnswer) → Calls me first inner told e
      → Calls me first (inner ++ Answered answer ∷ map gift_entry (take_turn me e (arrival_by answer)).gifts)
      (told ++ Answered (answer_by (take_turn me e (arrival_by answer)).delivers) ∷ []) (take_turn me e (arrival_by answer)).after
  gives : (inner told : List LinkEntry) (e : Endpoint) (to : ℕ) (payload : List ℕ) → (peer_at e.peers to).next < number_limit → Calls me first inner told e
      → Calls me first (inner ++ map gift_entry (give_turn me e to payload).gifts) (told ++ Gave to payload ∷ []) (give_turn me e to payload).after

-- what the inner link tells of a call that failed: nothing, or an answer and some of the gifts of its turn
pub data FailedCall (me : ℕ) (e : Endpoint) : List LinkEntry → Type 0 where
  untold : FailedCall me e []
  is_cut : (answer : LinkAnswer) (given : ℕ) → given < length (take_turn me e (arrival_by answer)).gifts
      → FailedCall me e (Answered answer ∷ take given (map gift_entry (take_turn me e (arrival_by answer)).gifts))

-- Since its last binding the inner link tells of calls, and perhaps of one more that failed; `told` is the binding and what the
-- calls tell.
pub record Follows (inner told : List LinkEntry) : Type 0 where
  pub before : List LinkEntry
  pub port : ℕ
  pub me : ℕ
  pub count : ℕ
  pub since : List LinkEntry
  pub talk : List LinkEntry
  pub endpoint : Endpoint
  pub rest : List LinkEntry
  pub inner_is : inner ≡ before ++ Bound port me count ∷ (since ++ rest)
  pub told_is : told ≡ Bound port me count ∷ talk
  pub calls : Calls me (new_endpoint count) since talk endpoint
  pub failed : FailedCall me endpoint rest

-- What every reliable link tells, by what its inner link tells: nothing; an empty list, where it is not bound; or what the calls
-- tell of which the inner link tells.
abbrev pub Retells : (inner told : Option (List LinkEntry)) → Type 0
Retells inner None = ⊤
Retells None (Some told) = ⊥
Retells (Some inner) (Some told) = (told ≡ []) ⊎ Follows inner told
