-- What a call that runs a node leaves: what its link has told since, and what was written.
use Rattle.std.specs.Prelude.{◌≡◌, ℕ, ◌-◌, ◌≤◌, nat_le, nat_lt, if◌then◌else◌, List, [], ◌∷◌, ◌++◌, length, take, Option}
use Rattle.std.specs.List.{All, flat_map}
use Rattle.da_values.specs.declared.val.Val.{Val}
use Rattle.da_lang.specs.declared.program.Program.{Program}
use Rattle.da_outside.specs.declared.link.LinkAnswer.{LinkAnswer}
use Rattle.da_outside.specs.declared.link.LinkEntry.{LinkEntry}
use Rattle.da_outside.specs.declared.link.LinkEntry.TheVariants.{Answered, Gave}
use Rattle.da_outside.specs.Link.{Gains}
use Rattle.da_outside.specs.Outside.{Appends}
use Rattle.msg_codec.specs.Packets.{IsPacket}
use Rattle.node_run.specs.declared.outcome.NodeOutcome.{NodeOutcome}
use Rattle.node_run.specs.declared.outcome.NodeOutcome.TheVariants as outcome
use Rattle.node_run.specs.NodeRun.{NodeEnd, Done, Faulted, Idle, Spent, AsksAgain, NodeRun, Round, talk_of, text_of}

-- the answers among what a link tells
abbrev pub answer_in : LinkEntry → List LinkAnswer
answer_in (Answered answer) = answer ∷ []
answer_in _ = []

abbrev pub answers_in : List LinkEntry → List LinkAnswer
answers_in = flat_map answer_in

-- THE LINES, of rounds of whose talk so many entries were told

-- the rounds before the first whose packets were not all given
abbrev pub given_rounds : ℕ → List Round → List Round
given_rounds told [] = []
given_rounds told (round ∷ rounds) =
    if nat_le (length round.talk) told then round ∷ given_rounds (told - length round.talk) rounds else []

-- those of them after which more was told
abbrev pub passed_rounds : ℕ → List Round → List Round
passed_rounds told [] = []
passed_rounds told (round ∷ rounds) =
    if nat_lt (length round.talk) told then round ∷ passed_rounds (told - length round.talk) rounds else []

-- the lines were written of the rounds whose packets were all given
abbrev pub WroteAll : ℕ → Option (List ℕ) → Option (List ℕ) → List Round → Type 0
WroteAll told before after rounds = Appends before after (text_of (given_rounds told rounds))

-- a prefix of them was written, in which nothing is missing of a round after which more was told
pub record WrotePrefix (told : ℕ) (before after : Option (List ℕ)) (rounds : List Round) : Type 0 where
  pub size : ℕ
  pub written : Appends before after (take size (text_of (given_rounds told rounds)))
  pub reaches : length (text_of (passed_rounds told rounds)) ≤ size

-- the same, where no other round was begun: what was told is their talk
pub record WroteGiven (told : ℕ) (before after : Option (List ℕ)) (rounds : List Round) : Type 0 where
  pub front : WrotePrefix told before after rounds
  pub whole : length (talk_of (given_rounds told rounds)) ≡ told

-- HOW FAR IT RAN

-- The rules led to this end, after so many answers at most: the link told the talk of the run over the answers that it gave,
-- and its lines were written.
pub record HasRun (program : Program) (me idle turns : ℕ) (end : NodeEnd) (told_before told_after : Option (List LinkEntry)) (before after : Option (List ℕ)) : Type 0 where
  pub talk : List LinkEntry
  pub rounds : List Round
  pub told : Gains told_before told_after talk
  pub run : NodeRun program me idle turns (answers_in talk) rounds end
  pub few : length (answers_in talk) ≤ turns
  pub whole : talk ≡ talk_of rounds
  pub written : Appends before after (text_of rounds)

-- A node was cut short: the link told a prefix of the talk of the run over the answers that it gave. So much was written of the
-- lines of its rounds.
pub record WasCut (program : Program) (me idle turns : ℕ) (told_before told_after : Option (List LinkEntry)) (before after : Option (List ℕ))
    (Wrote : ℕ → Option (List ℕ) → Option (List ℕ) → List Round → Type 0) : Type 0 where
  pub talk : List LinkEntry
  pub rounds : List Round
  pub end : NodeEnd
  pub untold : List LinkEntry
  pub told : Gains told_before told_after talk
  pub run : NodeRun program me idle turns (answers_in talk) rounds end
  pub few : length (answers_in talk) ≤ turns
  pub front : talk_of rounds ≡ talk ++ untold
  pub written : Wrote (length talk) before after rounds

-- WHAT THE LINK WAS GIVEN

-- a gift is a packet that names process `me` as its sender
abbrev pub IsPacketOf : ℕ → LinkEntry → Type 0
IsPacketOf me (Gave to bytes) = (time : ℕ) × (message : Val) × IsPacket me time message bytes
IsPacketOf me _ = Unit {0}

-- each gift that a link told since is such a packet
pub record GivesPackets (me : ℕ) (told_before told_after : Option (List LinkEntry)) : Type 0 where
  pub talk : List LinkEntry
  pub told : Gains told_before told_after talk
  pub packets : All (IsPacketOf me) talk

-- THE OUTCOME

-- what ended a node by the rules: its end
abbrev pub end_for : NodeOutcome → NodeEnd
end_for outcome.Done = Done
end_for outcome.Faulted = Faulted
end_for outcome.Idle = Idle
end_for outcome.Spent = Spent
end_for _ = AsksAgain

-- it ended by the rules, and nothing cut it short
abbrev pub HasEnded : NodeOutcome → Type 0
HasEnded outcome.LinkFault = ⊥
HasEnded outcome.WriteFault = ⊥
HasEnded outcome.Memory = ⊥
HasEnded _ = Unit {0}
