-- What a call does to an endpoint, and what the inner link tells meanwhile.
use Rattle.std.specs.Prelude.{◌≡◌, ℕ, ◌<◌, List, [], ◌∷◌, map, take, length, Option}
use Rattle.da_outside.specs.declared.link.LinkAnswer.{LinkAnswer}
use Rattle.da_outside.specs.declared.link.LinkEntry.{LinkEntry}
use Rattle.da_outside.specs.declared.link.LinkEntry.TheVariants.{Answered}
use Rattle.da_outside.specs.Link.{Gains}
use Rattle.arq_link.specs.Endpoint.{Endpoint, Turn, take_turn}
use Rattle.arq_link.specs.Telling.{answer_by, arrival_by, gift_entry}

-- the turn was played to its end
pub record IsPlayed (turn : Turn) (after : Endpoint) (told told' : Option (List LinkEntry)) : Type 0 where
  pub leads : after ≡ turn.after
  pub gave : Gains told told' (map gift_entry turn.gifts)

-- a gift of it failed: the peers stay
abbrev pub after_cut : Endpoint → Turn → Endpoint
after_cut before turn = record { peers = before.peers; idle = turn.after.idle }

pub record IsCut (turn : Turn) (before after : Endpoint) (told told' : Option (List LinkEntry)) : Type 0 where
  pub given : ℕ
  pub few : given < length turn.gifts
  pub leads : after ≡ after_cut before turn
  pub gave : Gains told told' (take given (map gift_entry turn.gifts))

-- THE CALL `take`

-- the inner link was asked once, and the turn by its answer was played to its end
pub record HasTaken (me : ℕ) (before after : Endpoint) (answer : LinkAnswer) (told told' : Option (List LinkEntry)) : Type 0 where
  pub heard : LinkAnswer
  pub leads : after ≡ (take_turn me before (arrival_by heard)).after
  pub gave : Gains told told' (Answered heard ∷ map gift_entry (take_turn me before (arrival_by heard)).gifts)
  pub answers : answer ≡ answer_by (take_turn me before (arrival_by heard)).delivers

-- nothing was heard and all stayed, or a gift of the turn failed
pub data FailedTake (me : ℕ) (before after : Endpoint) (told told' : Option (List LinkEntry)) : Type 0 where
  unheard : after ≡ before → Gains told told' [] → FailedTake me before after told told'
  is_cut : (heard : LinkAnswer) (given : ℕ) → given < length (take_turn me before (arrival_by heard)).gifts
      → after ≡ after_cut before (take_turn me before (arrival_by heard))
      → Gains told told' (Answered heard ∷ take given (map gift_entry (take_turn me before (arrival_by heard)).gifts))
      → FailedTake me before after told told'
