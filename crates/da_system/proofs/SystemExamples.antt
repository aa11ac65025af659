-- Each event of a system of two processes that wait at a label, of which the first has sent two messages to the second.
use Rattle.std.specs.Prelude.{◌≡◌, refl, ℕ, pos, false, List, [], ◌∷◌, Option, Some, None, codes}
use Rattle.da_values.specs.declared.val.Val.{Val}
use Rattle.da_values.specs.declared.val.Val.TheVariants as val
use Rattle.da_values.specs.declared.value.Value.{Value}
use Rattle.da_values.specs.declared.value.Value.TheVariants as literal
use Rattle.da_lang.specs.declared.event.Action.TheVariants.{Again, Answer, Got, Kept, Lost, Out, Sent, Stop}
use Rattle.da_lang.specs.declared.event.Event.{Event}
use Rattle.da_lang.specs.declared.event.Event.TheVariants.{Deliver, Lose, Repeat, Show, Stat}
use Rattle.da_lang.specs.declared.program.Class.{Class}
use Rattle.da_lang.specs.declared.program.Item.{Item, roll-Item}
use Rattle.da_lang.specs.declared.program.ItemKind.TheVariants as it
use Rattle.da_lang.specs.declared.program.Program.{Program}
use Rattle.da_lang.specs.declared.query.Pattern.TheVariants.{Any, Bind, Const, Tuple}
use Rattle.da_lang.specs.declared.query.Query.TheVariants as query
use Rattle.da_lang.specs.declared.query.Source.TheVariants as source
use Rattle.da_lang.specs.declared.ty.ChannelKind.{ChannelKind}
use Rattle.da_lang.specs.declared.ty.ChannelKind.TheVariants.{FifoReliable, UnorderedReliable, FifoUnreliable, UnorderedUnreliable}
use Rattle.da_lang.specs.Turns.{last_time}
use Rattle.da_lang.specs.World.{Data, Do, Entry, Phase, World, opening, New, Waiting, Ended}
use Rattle.da_lang.proofs.LiveLaws.{living}
use Rattle.da_lang.proofs.Computing.{stepping}
use Rattle.da_system.specs.Channels.{Channels, MessageInFlight, after_actions, no_messages}
use Rattle.da_system.specs.SourceRun.{src_run}
use Rattle.da_system.specs.SystemStep.{AfterEvent, SystemState, start, sys_step}

abbrev pub num : ℕ → Val
num n = val.Int (pos n)

-- `('note', n)`
abbrev note : ℕ → Val
note n = val.Tuple (val.Text (codes "note") ∷ num n ∷ [])

abbrev kept_note : ℕ → Value
kept_note n = literal.Tuple (val.Text (codes "note") ∷ num n ∷ [])

abbrev label : Item
label = roll-Item (record { line = 4; kind = it.Label 1 })

-- `some ('note', n) in received`
abbrev pub class : Class
class = record {
  name = codes "P";
  slots = [];
  params = [];
  setup = [];
  run = label ∷ [];
  handlers = [];
  line = 2;
  queries = query.Quant false (record { source = source.Received; message = Tuple (Const (literal.Text (codes "note")) ∷ Bind ∷ []); peer = Any } ∷ []) None ∷ [];
}

abbrev pub program : ChannelKind → Program
program kind = record { kind = kind; messages = []; classes = class ∷ []; procs = record { class = 0; setup = None } ∷ record { class = 0; setup = None } ∷ [] }

abbrev entry : ℕ → ℕ → ℕ → Entry
entry n peer time = record { message = note n; peer = peer; time = time }

abbrev pub message : ℕ → ℕ → MessageInFlight
message n time = record { message = note n; time = time }

-- process 1, which has sent notes 7 and 8 at the times 1 and 2
abbrev pub first : World
first = record { data' = record { me = 1; slots = []; sent = entry 7 2 1 ∷ entry 8 2 2 ∷ []; received = []; clock = 2 }; todo = Do label ∷ []; phase = Waiting }

-- process 2, with what it has received
abbrev pub knows : List Entry → ℕ → Data
knows received clock = record { me = 2; slots = []; sent = []; received = received; clock = clock }

abbrev pub second : Phase → Data → World
second phase d = record { data' = d; todo = Do label ∷ []; phase = phase }

-- the messages in flight from the first to the second
abbrev pub in_flight : List MessageInFlight → Channels
in_flight messages = ([] ∷ messages ∷ []) ∷ ([] ∷ [] ∷ []) ∷ []

abbrev pub system : ChannelKind → List MessageInFlight → World → SystemState
system kind messages w = record { kind = kind; worlds = first ∷ w ∷ []; channels = in_flight messages }

abbrev pub both : List MessageInFlight
both = message 7 1 ∷ message 8 2 ∷ []

abbrev steps : ChannelKind → Event → Option AfterEvent
steps kind e = sys_step (program kind) (system kind both (second Waiting (knows [] 0))) e

-- THE OPENING

opens : start (program FifoReliable) ≡ record { kind = FifoReliable; worlds = opening (program FifoReliable) 1 ∷ opening (program FifoReliable) 2 ∷ []; channels = in_flight [] }
opens = refl

-- DELIVERIES

fifo_delivers_first : steps FifoReliable (Deliver 1 2 1) ≡ Some (record { state = system FifoReliable (message 8 2 ∷ []) (second Waiting (knows (entry 7 1 1 ∷ []) 2)); actions = Got 2 1 1 (kept_note 7) ∷ [] })
unfolding last_time
fifo_delivers_first = simp stepping

fifo_delivers_no_second : steps FifoReliable (Deliver 1 2 2) ≡ None
fifo_delivers_no_second = refl

unreliable_fifo_delivers_no_second : steps FifoUnreliable (Deliver 1 2 2) ≡ None
unreliable_fifo_delivers_no_second = refl

unordered_delivers_second : steps UnorderedReliable (Deliver 1 2 2) ≡ Some (record { state = system UnorderedReliable (message 7 1 ∷ []) (second Waiting (knows (entry 8 1 2 ∷ []) 3)); actions = Got 2 1 2 (kept_note 8) ∷ [] })
unfolding last_time
unordered_delivers_second = simp stepping

delivers_no_third : steps UnorderedReliable (Deliver 1 2 3) ≡ None
delivers_no_third = refl

delivers_no_0 : steps UnorderedReliable (Deliver 1 2 0) ≡ None
delivers_no_0 = refl

-- a channel has a direction
delivers_none_back : steps UnorderedReliable (Deliver 2 1 1) ≡ None
delivers_none_back = refl

delivers_none_to_others : steps UnorderedReliable (Deliver 1 3 1) ≡ None
delivers_none_to_others = refl

delivers_none_from_others : steps UnorderedReliable (Deliver 3 2 1) ≡ None
delivers_none_from_others = refl

delivers_none_to_new : sys_step (program UnorderedReliable) (system UnorderedReliable both (second New (knows [] 0))) (Deliver 1 2 1) ≡ None
delivers_none_to_new = refl

delivers_none_to_ended : sys_step (program UnorderedReliable) (system UnorderedReliable both (second Ended (knows [] 0))) (Deliver 1 2 1) ≡ None
delivers_none_to_ended = refl

-- LOSSES, in each unreliable kind, of any message

unreliable_loses : steps UnorderedUnreliable (Lose 1 2 1) ≡ Some (record { state = system UnorderedUnreliable (message 8 2 ∷ []) (second Waiting (knows [] 0)); actions = Lost 1 2 1 ∷ [] })
unreliable_loses = refl

unreliable_fifo_loses_second : steps FifoUnreliable (Lose 1 2 2) ≡ Some (record { state = system FifoUnreliable (message 7 1 ∷ []) (second Waiting (knows [] 0)); actions = Lost 1 2 2 ∷ [] })
unreliable_fifo_loses_second = refl

reliable_loses_none : steps UnorderedReliable (Lose 1 2 1) ≡ None
reliable_loses_none = refl

reliable_fifo_loses_none : steps FifoReliable (Lose 1 2 1) ≡ None
reliable_fifo_loses_none = refl

loses_no_third : steps FifoUnreliable (Lose 1 2 3) ≡ None
loses_no_third = refl

-- REPETITIONS, in one kind: the copy is the last

repeats : steps UnorderedUnreliable (Repeat 1 2 1) ≡ Some (record { state = system UnorderedUnreliable (message 7 1 ∷ message 8 2 ∷ message 7 1 ∷ []) (second Waiting (knows [] 0)); actions = Again 1 2 1 ∷ [] })
repeats = refl

repeats_no_third : steps UnorderedUnreliable (Repeat 1 2 3) ≡ None
repeats_no_third = refl

fifo_repeats_none : steps FifoUnreliable (Repeat 1 2 1) ≡ None
fifo_repeats_none = refl

reliable_repeats_none : steps UnorderedReliable (Repeat 1 2 1) ≡ None
reliable_repeats_none = refl

-- WHAT IS TOLD of process 2, which has received note 7 twice, and note 6

abbrev taught : SystemState
taught = system UnorderedUnreliable [] (second Waiting (knows (entry 7 1 1 ∷ entry 6 1 3 ∷ entry 7 1 1 ∷ []) 5))

shows : sys_step (program UnorderedUnreliable) taught (Show 2) ≡ Some (record { state = taught; actions = Answer 2 1 (val.Tuple (num 6 ∷ []) ∷ val.Tuple (num 7 ∷ []) ∷ []) ∷ [] })
shows = simp stepping

keeps : sys_step (program UnorderedUnreliable) taught (Stat 2) ≡ Some (record { state = taught; actions = Kept 2 2 ∷ [] })
keeps = simp living

shows_no_third : sys_step (program UnorderedUnreliable) taught (Show 3) ≡ None
shows_no_third = refl

shows_no_0 : sys_step (program UnorderedUnreliable) taught (Show 0) ≡ None
shows_no_0 = refl

keeps_no_third : sys_step (program UnorderedUnreliable) taught (Stat 3) ≡ None
keeps_no_third = refl

-- WHAT ACTIONS SEND goes into the channels in order, to the process itself too; other actions send nothing

sends : after_actions (no_messages 2) (Sent 1 1 1 (kept_note 7) ∷ Out 1 (kept_note 5) ∷ Sent 1 2 2 (kept_note 7) ∷ Sent 1 2 3 (kept_note 8) ∷ []) ≡ ((message 7 1 ∷ []) ∷ (message 7 2 ∷ message 8 3 ∷ []) ∷ []) ∷ ([] ∷ [] ∷ []) ∷ []
sends = refl

-- A RUN, which stops at the first event that is not allowed

stops : src_run (program UnorderedReliable) (Show 1 ∷ Lose 1 2 1 ∷ Show 2 ∷ []) ≡ record { actions = Answer 1 1 [] ∷ Stop 2 ∷ []; stop = Some 2; state = start (program UnorderedReliable) }
stops = refl

runs_to_its_end : src_run (program UnorderedReliable) (Stat 1 ∷ Show 2 ∷ []) ≡ record { actions = Kept 1 0 ∷ Answer 2 1 [] ∷ []; stop = None; state = start (program UnorderedReliable) }
runs_to_its_end = simp living
