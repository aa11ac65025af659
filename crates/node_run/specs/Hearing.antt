-- A running node, and what it does at its start and at one answer.
use Rattle.std.specs.Prelude.{◌≡◌, ℕ, ◌-◌, ◌^◌, ◌<◌, nat_le, Bool, true, false, if◌then◌else◌, List, [], ◌∷◌, map, remove, slice_get, Option, Some, None}
use Rattle.std.specs.List.{All}
use Rattle.da_values.specs.Value.{val_of}
use Rattle.da_lang.specs.declared.event.Action.{Action}
use Rattle.da_lang.specs.declared.program.Program.{Program}
use Rattle.da_lang.specs.Steps.{Go, Stepped, proc_step}
use Rattle.da_lang.specs.World.{Waiting, opening}
use Rattle.da_core.specs.declared.place.Stopped.{Stopped}
use Rattle.da_core.specs.declared.place.Stopped.TheVariants as stopped
use Rattle.da_core.specs.Arrivals.{MayArrive}
use Rattle.da_core.specs.Made.{phase_of}
use Rattle.da_core.specs.StandsFor as process
use Rattle.da_outside.specs.declared.link.LinkAnswer.{LinkAnswer}
use Rattle.da_outside.specs.declared.link.LinkEntry.{LinkEntry}
use Rattle.da_outside.specs.declared.link.LinkEntry.TheVariants.{Answered}
use Rattle.da_outside.specs.Link.{Gains}
use Rattle.da_outside.specs.Outside.{Appends}
use Rattle.msg_codec.specs.declared.packet.Packet.{Packet}
use Rattle.sched_text.specs.ActionText.{action_text}
use Rattle.node_run.specs.declared.hearing.Running.{Running}
use Rattle.node_run.specs.declared.outcome.NodeOutcome.{NodeOutcome}
use Rattle.node_run.specs.declared.outcome.NodeOutcome.TheVariants.{Done, Faulted, Idle}
use Rattle.node_run.specs.Gifts.{CutText, IsCutShort}
use Rattle.node_run.specs.HeldPackets.{Held, arrival_of}
use Rattle.node_run.specs.NodeRun.{Hears, Node, after_delivery, first_node, gifts, move_of, next_held}

-- A RUNNING NODE

-- held packets, as the rules see them
abbrev pub held_of : Packet → Held
held_of packet = record { message = val_of packet.value; sender = packet.sender; time = packet.clock }

abbrev pub held_in : List Packet → List Held
held_in = map held_of

-- their messages may arrive at a process of the program
abbrev pub MayAllArrive : Program → List Packet → Type 0
MayAllArrive program = All (λ packet. MayArrive program packet.value packet.sender packet.clock)

-- It stands for a node by the rules: its core stands for the process, which has stopped so, it holds the same packets, and as
-- many answers up to now were idle turns.
pub record StandsAs (program : Program) (running : Running) (node : Node) : Type 0 where
  pub stands : process.StandsFor running.core node.process
  pub same : process.program_of running.core ≡ program
  pub stopped : phase_of running.stopped ≡ node.process.phase
  pub held : held_in running.held ≡ node.held
  pub arrive : MayAllArrive program running.held
  pub idle : running.idle ≡ node.idle

-- it stands for some node
abbrev pub IsStanding : Program → Running → Type 0
IsStanding program running = (node : Node) × StandsAs program running node

-- it stands for some node, which waits, and one more idle turn can be counted
pub record IsListening (program : Program) (running : Running) : Type 0 where
  pub node : Node
  pub stands : StandsAs program running node
  pub waits : running.stopped ≡ stopped.AtYield
  pub few : running.idle < 2 ^ 64 - 1

-- no move is allowed where it stands
abbrev pub IsQuiet : Running → Type 0
IsQuiet running = process.Whichever running.core (λ w. w.phase ≡ Waiting → move_of w ≡ None)

-- the end that has come for a process that has stopped so, when so many answers up to now were idle turns
abbrev pub end_at : Stopped → ℕ → ℕ → Option NodeOutcome
end_at stopped.Ended idle most = Some Done
end_at stopped.Faulted idle most = Some Faulted
end_at stopped.AtYield idle most = if nat_le most idle then Some Idle else None

-- THE START

-- the process has started: the link gained the packets of what was sent, and the lines were written
pub record HasBegun (program : Program) (me : ℕ) (running : Running) (told_before told_after : Option (List LinkEntry)) (before after : Option (List ℕ)) : Type 0 where
  pub started : Stepped
  pub start : proc_step program (opening program me) Go ≡ Some started
  pub stands : StandsAs program running (first_node started.world)
  pub gave : Gains told_before told_after (gifts started.actions)
  pub written : Appends before after (action_text started.actions)

-- the start was cut short, and the node ends so
pub record WasCutBeginning (outcome : NodeOutcome) (program : Program) (me : ℕ) (told_before told_after : Option (List LinkEntry)) (before after : Option (List ℕ)) : Type 0 where
  pub started : Stepped
  pub start : proc_step program (opening program me) Go ≡ Some started
  pub cut : IsCutShort outcome started.actions told_before told_after before after

-- A HELD PACKET

-- the packet at this place is the one that is found, and the others are held after it; or none is found
abbrev pub IsFoundAt : List Packet → Option (Held × List Held) → Option ℕ → Type 0
IsFoundAt packets found None = found ≡ None
IsFoundAt packets found (Some place) =
    (packet : Packet) × (slice_get packets place ≡ Some packet) × (found ≡ Some (held_of packet, held_in (remove packets place)))

-- a packet is delivered next, in this step
pub record Delivers (program : Program) (node : Node) (held : List Held) (step : Stepped) : Type 0 where
  pub packet : Held
  pub found : next_held program node ≡ Some (packet, held)
  pub leads : proc_step program node.process (arrival_of packet) ≡ Some step

-- it was delivered
pub record HasDelivered (program : Program) (node : Node) (running : Running) (told_before told_after : Option (List LinkEntry)) (before after : Option (List ℕ)) : Type 0 where
  pub held : List Held
  pub step : Stepped
  pub delivers : Delivers program node held step
  pub stands : StandsAs program running (after_delivery node held step.world)
  pub gave : Gains told_before told_after (gifts step.actions)
  pub written : Appends before after (action_text step.actions)

-- none is, and all is as it was
pub record DeliversNone (program : Program) (node : Node) (old new : Running) (told_before told_after : Option (List LinkEntry)) (before after : Option (List ℕ)) : Type 0 where
  pub none : next_held program node ≡ None
  pub same : new ≡ old
  pub untold : told_after ≡ told_before
  pub unwritten : after ≡ before

-- by whether one was
abbrev pub HasDeliveredNext : Bool → Program → Node → Running → Running → Option (List LinkEntry) → Option (List LinkEntry) → Option (List ℕ) → Option (List ℕ) → Type 0
HasDeliveredNext true program node old new told_before told_after before after = HasDelivered program node new told_before told_after before after
HasDeliveredNext false program node old new told_before told_after before after = DeliversNone program node old new told_before told_after before after

-- the delivery was cut short
pub record WasCutDelivering (outcome : NodeOutcome) (program : Program) (node : Node) (told_before told_after : Option (List LinkEntry)) (before after : Option (List ℕ)) : Type 0 where
  pub held : List Held
  pub step : Stepped
  pub delivers : Delivers program node held step
  pub cut : IsCutShort outcome step.actions told_before told_after before after

-- AN ANSWER

-- the node has done what the rules say at this answer
pub record HasActed (program : Program) (node : Node) (answer : LinkAnswer) (running : Running) (told_before told_after : Option (List LinkEntry)) (before after : Option (List ℕ)) : Type 0 where
  pub actions : List Action
  pub then' : Node
  pub hears : Hears program node answer actions then'
  pub stands : StandsAs program running then'
  pub gave : Gains told_before told_after (gifts actions)
  pub written : Appends before after (action_text actions)

-- that was cut short
pub record WasCutActing (outcome : NodeOutcome) (program : Program) (node : Node) (answer : LinkAnswer) (told_before told_after : Option (List LinkEntry)) (before after : Option (List ℕ)) : Type 0 where
  pub actions : List Action
  pub then' : Node
  pub hears : Hears program node answer actions then'
  pub cut : IsCutShort outcome actions told_before told_after before after

-- the link was asked and told its answer, and then the node has done what the rules say
pub record HasHeard (program : Program) (node : Node) (running : Running) (told_before told_after : Option (List LinkEntry)) (before after : Option (List ℕ)) : Type 0 where
  pub answer : LinkAnswer
  pub told_between : Option (List LinkEntry)
  pub answered : Gains told_before told_between (Answered answer ∷ [])
  pub acted : HasActed program node answer running told_between told_after before after

-- that was cut short, before the answer or after it
pub data WasCutHearing (outcome : NodeOutcome) (program : Program) (node : Node) (told_before told_after : Option (List LinkEntry)) (before after : Option (List ℕ)) : Type 0 where
  unanswered : Gains told_before told_after [] → CutText outcome before after [] → WasCutHearing outcome program node told_before told_after before after
  behind : (answer : LinkAnswer) (told_between : Option (List LinkEntry)) → Gains told_before told_between (Answered answer ∷ [])
      → WasCutActing outcome program node answer told_between told_after before after → WasCutHearing outcome program node told_before told_after before after
