-- The step of a process: a move, a timeout, or the delivery of a message.
use Rattle.std.specs.Prelude.{ℕ, zero, suc, ◌+◌, max, nat_lt, if◌then◌else◌, List, [], ◌∷◌, ◌++◌, length, Option, Some, None}
use Rattle.std.specs.List.{list_any}
use Rattle.da_values.specs.declared.val.Val.{Val}
use Rattle.da_values.specs.Value.{value_of}
use Rattle.da_lang.specs.declared.event.Action.{Action}
use Rattle.da_lang.specs.declared.event.Action.TheVariants.{Took, Got, End, Fault}
use Rattle.da_lang.specs.declared.event.FaultKind.TheVariants.{TooLong}
use Rattle.da_lang.specs.declared.program.Alt.{Alt}
use Rattle.da_lang.specs.declared.program.Class.{Class}
use Rattle.da_lang.specs.declared.program.Handler.{Handler}
use Rattle.da_lang.specs.declared.program.Item.{Item}
use Rattle.da_lang.specs.declared.program.ItemKind.{ItemKind}
use Rattle.da_lang.specs.declared.program.ItemKind.TheOpen.{ItemKind-F, Await, Label}
use Rattle.da_lang.specs.declared.program.ItemKind.TheViews.{out-Alt}
use Rattle.da_lang.specs.declared.program.ProcDecl.{ProcDecl}
use Rattle.da_lang.specs.declared.program.Program.{Program}
use Rattle.da_lang.specs.declared.program.RBranch.{RBranch}
use Rattle.da_lang.specs.declared.program.SetupCall.{SetupCall}
use Rattle.da_lang.specs.Labels.{open_handlers, takes}
use Rattle.da_lang.specs.Matching.{Row, matched_entry}
use Rattle.da_lang.specs.Queries.{holds}
use Rattle.da_lang.specs.Runs.{Halt, AtYield, UsedUp, Faults, Ran, stopped, ran_after, max_turns, run_to_yield}
use Rattle.da_lang.specs.Turns.{bind_all, bind_found, do_all, later, kind_of}
use Rattle.da_lang.specs.World.{Data, Task, Do, Prepare, World, at_number, class_of, Phase, New, Waiting, Ended, Faulted}

-- a move from the opening or a label; one that takes the alternative of this number; the time that runs out; a message with
-- its sender and its time that arrives
pub data Step : Type 0 where
  Go : Step
  Take : (k : ℕ) → Step
  TimeOut : Step
  Deliver : (message : Val) (sender : ℕ) (time : ℕ) → Step

-- the move that a number names: 0 is the one from the opening or a label
abbrev pub move_step : ℕ → Step
move_step zero = Go
move_step (suc k) = Take (suc k)

-- the world after a step, and what the step did
pub record Stepped : Type 0 where
  pub world : World
  pub actions : List Action

-- MOVES

abbrev pub phase_after : Halt → Phase
phase_after AtYield = Waiting
phase_after UsedUp = Ended
phase_after (Faults kind line) = Faulted

-- the action that tells of the end or of a fault
abbrev pub closing : ℕ → Halt → List Action
closing me AtYield = []
closing me UsedUp = End me ∷ []
closing me (Faults kind line) = Fault me kind line ∷ []

-- a move, by the number that it tells and the run that it makes
abbrev pub moved : ℕ → ℕ → Ran → Stepped
moved me k ran = record {
  world = record { data' = ran.data'; todo = ran.todo; phase = phase_after ran.halt };
  actions = Took me k ∷ ran.actions ++ closing me ran.halt;
}

-- what a process has to do at first: its line of `setup`, if there is one, and the body of `run`
abbrev pub preparing : Option SetupCall → List Task
preparing None = []
preparing (Some call) = Prepare call ∷ []

abbrev pub setup_of_decl : Option ProcDecl → Option SetupCall
setup_of_decl None = None
setup_of_decl (Some decl) = decl.setup

abbrev pub first_tasks : Program → Class → ℕ → List Task
first_tasks program class me = preparing (setup_of_decl (at_number program.procs me)) ++ do_all class.run []

-- the first thing to do is a label: it is taken off, which is the first turn
abbrev pub past_label : Class → Data → List Task → ItemKind-F ItemKind Alt Item RBranch → Option Stepped
past_label class d todo (Label l) = Some (moved d.me 0 (run_to_yield class 1 d todo))
past_label class d todo _ = None

-- the first thing to do is an `await`: it is taken off, which is the first turn, the least row is bound, and the block
-- of the alternative stands first
abbrev pub take_alternative : Class → Data → List Task → ℕ → Option Alt → Option Stepped
take_alternative class d todo k None = None
take_alternative class d todo k (Some alt) =
    if holds d (out-Alt alt).cond []
    then Some (moved d.me k (run_to_yield class 1 (bind_found class.queries (out-Alt alt).found (out-Alt alt).binds d) (do_all (out-Alt alt).body todo)))
    else None

abbrev pub past_await : Class → Data → List Task → ℕ → ItemKind-F ItemKind Alt Item RBranch → Option Stepped
past_await class d todo k (Await alts timeout label) = take_alternative class d todo k (at_number alts k)
past_await class d todo k _ = None

-- the first thing to do is an `await` with a block for a timeout, and no alternative may be taken: it is taken off, which is
-- the first turn, and that block stands first
abbrev pub past_timeout : Class → Data → List Task → ItemKind-F ItemKind Alt Item RBranch → Option Stepped
past_timeout class d todo (Await alts (Some body) label) =
    if list_any (λ alt. holds d (out-Alt alt).cond []) alts
    then None
    else Some (moved d.me (length alts + 1) (run_to_yield class 1 d (do_all body todo)))
past_timeout class d todo _ = None

abbrev pub go_waiting : Class → Data → List Task → Option Stepped
go_waiting class d (Do i ∷ todo) = past_label class d todo (kind_of i)
go_waiting class d _ = None

abbrev pub take_waiting : Class → Data → ℕ → List Task → Option Stepped
take_waiting class d k (Do i ∷ todo) = past_await class d todo k (kind_of i)
take_waiting class d k _ = None

abbrev pub time_out_waiting : Class → Data → List Task → Option Stepped
time_out_waiting class d (Do i ∷ todo) = past_timeout class d todo (kind_of i)
time_out_waiting class d _ = None

-- DELIVERIES

-- the receiver's clock rises above its own and the carried time, and the message joins the history
abbrev pub received_at : Val → ℕ → ℕ → Data → Data
received_at m p time d =
    record d { clock = later (max d.clock time); received = d.received ++ record { message = m; peer = p; time = time } ∷ [] }

-- after the body of a handler: its fault, or the next handlers
abbrev pub after_halt : Halt → Ran → (ℕ → Data → Ran) → Ran
after_halt (Faults kind line) ran go = ran
after_halt AtYield ran go = ran_after ran.actions (go ran.turns ran.data')
after_halt UsedUp ran go = ran_after ran.actions (go ran.turns ran.data')

abbrev pub after_body : Ran → (ℕ → Data → Ran) → Ran
after_body ran go = after_halt ran.halt ran go

-- a handler is tried in one turn: where its patterns match, its variables are bound and its body runs
abbrev pub try_handler : Class → Handler → ℕ → Data → Option Row → (ℕ → Data → Ran) → Ran
try_handler class h n d None go = go n d
try_handler class h n d (Some row) go = after_body (run_to_yield class n (bind_all h.binds row d) (do_all h.body [])) go

-- some handlers in text order, where n turns were taken; after the last one the process stands at its yield point again
abbrev pub handle : Class → Val → ℕ → List Handler → ℕ → Data → Ran
handle class m p [] n d = stopped d [] n AtYield
handle class m p (h ∷ hs) n d =
    if nat_lt n max_turns
    then try_handler class h (n + 1) d (matched_entry d h.message h.from m p []) (handle class m p hs)
    else stopped d [] n (Faults TooLong h.line)

-- a delivery, by the run of the handlers; what the process had to do before it still has to
abbrev pub handled : List Task → ℕ → Val → ℕ → ℕ → Ran → Stepped
handled todo me m p time ran = record {
  world = record { data' = ran.data'; todo = todo; phase = phase_after ran.halt };
  actions = Got me p time (value_of m) ∷ ran.actions ++ closing me ran.halt;
}

-- STEPS

-- the step of a process of this class, by its phase, or none where it is not allowed
abbrev pub class_step : Program → Class → World → Step → Phase → Option Stepped
class_step program class w Go New = Some (moved w.data'.me 0 (run_to_yield class 0 w.data' (first_tasks program class w.data'.me)))
class_step program class w Go Waiting = go_waiting class w.data' w.todo
class_step program class w (Take k) Waiting = take_waiting class w.data' k w.todo
class_step program class w TimeOut Waiting = time_out_waiting class w.data' w.todo
class_step program class w (Deliver m p time) Waiting =
    if takes class w m p
    then Some (handled w.todo w.data'.me m p time (handle class m p (open_handlers class w.todo) 0 (received_at m p time w.data')))
    else None
class_step program class w step phase = None

abbrev pub step_in : Program → World → Step → Option Class → Option Stepped
step_in program w step None = None
step_in program w step (Some class) = class_step program class w step w.phase

-- the step of a process
abbrev pub proc_step : Program → World → Step → Option Stepped
proc_step program w step = step_in program w step (class_of program w.data'.me)
