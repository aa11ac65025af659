-- The run of a node: one process of a program over the answers of its link.
use Rattle.std.specs.Prelude.{◌≡◌, ℕ, suc, ◌+◌, nat_le, Bool, true, ◌&&◌, if◌then◌else◌, List, [], ◌∷◌, Option, Some, None, is_some}
use Rattle.std.specs.List.{flat_map}
use Rattle.da_values.specs.Value.{val_of}
use Rattle.da_lang.specs.declared.event.Action.{Action}
use Rattle.da_lang.specs.declared.event.Action.TheVariants.{Sent}
use Rattle.da_lang.specs.declared.program.Alt.{Alt}
use Rattle.da_lang.specs.declared.program.Item.{Item}
use Rattle.da_lang.specs.declared.program.ItemKind.{ItemKind}
use Rattle.da_lang.specs.declared.program.ItemKind.TheOpen.{ItemKind-F, Await, Label}
use Rattle.da_lang.specs.declared.program.ItemKind.TheViews.{out-Alt}
use Rattle.da_lang.specs.declared.program.Program.{Program}
use Rattle.da_lang.specs.declared.program.RBranch.{RBranch}
use Rattle.da_lang.specs.Queries.{holds}
use Rattle.da_lang.specs.Shaped.{IsProcess, well_typed}
use Rattle.da_lang.specs.Steps.{Step, Go, TimeOut, Stepped, move_step, proc_step}
use Rattle.da_lang.specs.Turns.{kind_of}
use Rattle.da_lang.specs.World as world
use Rattle.da_lang.specs.World.{Data, Phase, Task, Do, World, opening}
use Rattle.da_outside.specs.declared.link.LinkAnswer.{LinkAnswer}
use Rattle.da_outside.specs.declared.link.LinkAnswer.TheVariants.{Datagram, Nothing}
use Rattle.da_outside.specs.declared.link.LinkEntry.{LinkEntry}
use Rattle.da_outside.specs.declared.link.LinkEntry.TheVariants.{Answered, Gave}
use Rattle.msg_codec.specs.Packets.{IsPacket, packet_bytes}
use Rattle.sched_text.specs.ActionText.{action_text}
use Rattle.node_run.specs.HeldPackets.{Held, arrival_of, find_held, held_with}

-- WHAT THE LINK IS GIVEN AND WHAT IT BRINGS

-- the packet of a message that was sent, for its recipient
abbrev pub gift_of : Action → List LinkEntry
gift_of (Sent p q t v) = Gave q (packet_bytes p t (val_of v)) ∷ []
gift_of _ = []

abbrev pub gifts : List Action → List LinkEntry
gifts = flat_map gift_of

-- a datagram that is a message for the node: the packet of a declared message of its types, from a process of the program, in
-- which all processes are processes of the program
pub record IsMessage (program : Program) (bytes : List ℕ) (x : Held) : Type 0 where
  pub packet : IsPacket x.sender x.time x.message bytes
  pub from : IsProcess program x.sender
  pub typed : well_typed program x.message ≡ true

-- WHAT A NODE DOES WHERE NOTHING COMES

-- the number of the first of these alternatives whose condition holds, where they are numbered from k on
abbrev pub first_true : Data → ℕ → List Alt → Option ℕ
first_true d k [] = None
first_true d k (alt ∷ alts) = if holds d (out-Alt alt).cond [] then Some k else first_true d (suc k) alts

-- at a label it goes on, and at an `await` it takes the least alternative that is true
abbrev pub move_at : Data → ItemKind-F ItemKind Alt Item RBranch → Option ℕ
move_at d (Label l) = Some 0
move_at d (Await alts timeout label) = first_true d 1 alts
move_at d _ = None

abbrev pub move_before : Data → List Task → Option ℕ
move_before d (Do i ∷ todo) = move_at d (kind_of i)
move_before d _ = None

-- the number of the move that a process makes, or none
abbrev pub move_of : World → Option ℕ
move_of w = move_before w.data' w.todo

-- A node: its process, the packets that it holds, how many answers up to now were idle turns in a row, and how many were taken
-- at all.
pub record Node : Type 0 where
  pub process : World
  pub held : List Held
  pub idle : ℕ
  pub taken : ℕ

-- after so many idle turns the time runs out
abbrev pub idle_turns_to_timeout : ℕ
idle_turns_to_timeout = 999

-- the time runs out at an `await` that has a block for that and no true alternative
abbrev pub may_time_out : Program → Node → Bool
may_time_out program node = nat_le idle_turns_to_timeout node.idle && is_some (proc_step program node.process TimeOut)

abbrev pub step_for : Option ℕ → Bool → Option Step
step_for (Some k) late = Some (move_step k)
step_for None late = if late then Some TimeOut else None

-- its move, or else the timeout, or none
abbrev pub step_of : Program → Node → Option Step
step_of program node = step_for (move_of node.process) (may_time_out program node)

-- THE RULES

-- with these packets after an answer that was a datagram, which is no idle turn
abbrev pub after_datagram : Node → List Held → Node
after_datagram node held = record { process = node.process; held = held; idle = 0; taken = node.taken + 1 }

abbrev pub after_step : Node → World → Node
after_step node process = record { process = process; held = node.held; idle = 0; taken = node.taken + 1 }

abbrev pub after_idle_turn : Node → Node
after_idle_turn node = record { process = node.process; held = node.held; idle = node.idle + 1; taken = node.taken + 1 }

-- a delivery uses no answer
abbrev pub after_delivery : Node → List Held → World → Node
after_delivery node held process = record { process = process; held = held; idle = node.idle; taken = node.taken }

-- the held packet that is delivered next, and what is held after it
abbrev pub next_held : Program → Node → Option (Held × List Held)
next_held program node = find_held program node.process [] node.held

-- what a node does at an answer, and what it is after it
pub data Hears (program : Program) (node : Node) : LinkAnswer → List Action → Node → Type 0 where
  comes_in : (bytes : List ℕ) (x : Held) → IsMessage program bytes x
      → Hears program node (Datagram bytes) [] (after_datagram node (held_with program.kind node.held x))
  drops : (bytes : List ℕ) → ((x : Held) → IsMessage program bytes x → ⊥)
      → Hears program node (Datagram bytes) [] (after_datagram node node.held)
  steps : (step : Step) (after : Stepped) → step_of program node ≡ Some step → proc_step program node.process step ≡ Some after
      → Hears program node Nothing after.actions (after_step node after.world)
  idles : step_of program node ≡ None → Hears program node Nothing [] (after_idle_turn node)

-- where the rules have come to: the process has ended, a fault has ended it, the last answers were so many idle turns, so
-- many answers were taken, or the link is asked again
pub data NodeEnd : Type 0 where
  Done : NodeEnd
  Faulted : NodeEnd
  Idle : NodeEnd
  Spent : NodeEnd
  AsksAgain : NodeEnd

abbrev pub end_in : ℕ → ℕ → Node → Phase → NodeEnd
end_in idle turns node world.Ended = Done
end_in idle turns node world.Faulted = Faulted
end_in idle turns node _ = if nat_le idle node.idle then Idle else if nat_le turns node.taken then Spent else AsksAgain

abbrev pub end_of : ℕ → ℕ → Node → NodeEnd
end_of idle turns node = end_in idle turns node node.process.phase

-- THE RUN

-- the start of the process, a delivery, or one answer: the actions, and what the link tells meanwhile, which is the answer, if
-- there is one, and then the packets of what was sent
pub record Round : Type 0 where
  pub actions : List Action
  pub talk : List LinkEntry

abbrev pub event_round : List Action → Round
event_round actions = record { actions = actions; talk = gifts actions }

abbrev pub answer_round : LinkAnswer → List Action → Round
answer_round answer actions = record { actions = actions; talk = Answered answer ∷ gifts actions }

-- The node goes on over these answers. A held packet is delivered where one may be; only where none may, an answer is heard,
-- where the rules ask for one.
pub data GoesOn (program : Program) (idle turns : ℕ) : Node → List LinkAnswer → List Round → Node → Type 0 where
  stays : (node : Node) → GoesOn program idle turns node [] [] node
  delivers : (node last : Node) (x : Held) (held : List Held) (after : Stepped) (answers : List LinkAnswer) (rounds : List Round)
      → next_held program node ≡ Some (x, held) → proc_step program node.process (arrival_of x) ≡ Some after
      → GoesOn program idle turns (after_delivery node held after.world) answers rounds last
      → GoesOn program idle turns node answers (event_round after.actions ∷ rounds) last
  hears : (node then' last : Node) (answer : LinkAnswer) (answers : List LinkAnswer) (actions : List Action) (rounds : List Round)
      → next_held program node ≡ None → end_of idle turns node ≡ AsksAgain
      → Hears program node answer actions then' → GoesOn program idle turns then' answers rounds last
      → GoesOn program idle turns node (answer ∷ answers) (answer_round answer actions ∷ rounds) last

-- a process that has started
abbrev pub first_node : World → Node
first_node process = record { process = process; held = []; idle = 0; taken = 0 }

-- The run of process `me` over these answers, all of which it asks for: the process starts, and then the node goes on until no
-- answer and no held packet is left that may be delivered.
pub record NodeRun (program : Program) (me idle turns : ℕ) (answers : List LinkAnswer) (rounds : List Round) (end : NodeEnd) : Type 0 where
  pub started : Stepped
  pub start : proc_step program (opening program me) Go ≡ Some started
  pub later : List Round
  pub last : Node
  pub goes : GoesOn program idle turns (first_node started.world) answers later last
  pub rests : next_held program last ≡ None
  pub rounds_are : rounds ≡ event_round started.actions ∷ later
  pub end_is : end ≡ end_of idle turns last

-- the actions of a run with their lines, and its talk: the answers and gifts in the order of the rules
abbrev pub actions_of : List Round → List Action
actions_of = flat_map (λ round. round.actions)

abbrev pub text_of : List Round → List ℕ
text_of rounds = action_text (actions_of rounds)

abbrev pub talk_of : List Round → List LinkEntry
talk_of = flat_map (λ round. round.talk)
