-- The arrival of a message at a process in code, and the run of the handlers.
use Rattle.std.specs.Prelude.{◌≡◌, ℕ, List, [], ◌∷◌, ◌++◌, Option}
use Rattle.std.specs.List.{filter}
use Rattle.da_values.specs.declared.val.Val.{Val}
use Rattle.da_values.specs.declared.value.Value.{Value}
use Rattle.da_values.specs.declared.value.Value.TheVariants as kept
use Rattle.da_values.specs.Sets.{Has}
use Rattle.da_values.specs.Value.{val_of}
use Rattle.da_lang.specs.declared.event.Action.{Action}
use Rattle.da_lang.specs.declared.event.Action.TheVariants as action
use Rattle.da_lang.specs.declared.program.Handler.{Handler}
use Rattle.da_lang.specs.declared.program.Program.{Program}
use Rattle.da_lang.specs.declared.code.Instr.TheVariants as op
use Rattle.da_lang.specs.Accepted.{IsAccepted}
use Rattle.da_lang.specs.Labels.{is_open}
use Rattle.da_lang.specs.Matching.{Row, matched_entry}
use Rattle.da_lang.specs.Runs.{Halt, AtYield, Faults, Ran, ran_after}
use Rattle.da_lang.specs.Shaped.{IsEntry, ShapedData}
use Rattle.da_lang.specs.Steps.{Step, Deliver, closing, handle, phase_after, received_at, try_handler}
use Rattle.da_lang.specs.World.{Data, Entry, Task}
use Rattle.da_machine.specs.declared.machine.Stop.{Stop}
use Rattle.da_machine.specs.declared.machine.Stop.TheVariants as stop
use Rattle.da_machine.specs.CodeFor.{CodeFor, Has as HasInstr}
use Rattle.da_machine.specs.Entries.{IsPoint}
use Rattle.da_machine.specs.Forward.{IsForward}
use Rattle.code_gen.specs.ClassCode.{IsEntered, handler_tasks}
use Rattle.da_core.specs.declared.deliveries.Delivery.{Delivery}
use Rattle.da_core.specs.declared.deliveries.Handled.{Handled}
use Rattle.da_core.specs.declared.deliveries.Handled.TheVariants as handled
use Rattle.da_core.specs.declared.known.Known.{Known}
use Rattle.da_core.specs.declared.place.Place.{Place}
use Rattle.da_core.specs.Known.{Knows}
use Rattle.da_core.specs.StandsFor.{IsPlace}
use Rattle.da_core.specs.Waits.{waits_of}
use Rattle.query_plan.specs.Questions.{norm_class}

-- A message as it arrives: with its sender and the time of its sending.
abbrev pub entry_at : Value → ℕ → ℕ → Entry
entry_at m from time = record { message = val_of m; peer = from; time = time }

abbrev pub arrival : Value → ℕ → ℕ → Step
arrival m from time = Deliver (val_of m) from time

-- it may arrive: a declared message of its types, whose processes are there, from a process that is there
abbrev pub MayArrive : Program → Value → ℕ → ℕ → Type 0
MayArrive p m from time = IsEntry p (entry_at m from time)

-- THE RUN OF THE HANDLERS

-- What is kept stands for a process of the class of an accepted program that knows d, which is as types say. Its code has an entry
-- for each handler, and the message may arrive (at whatever time it was sent).
pub record MayHandle (p : Program) (x : Delivery) (known : Known) (d : Data) : Type 0 where
  pub accepted : IsAccepted p
  pub knows : Knows known p x.class.now d
  pub shaped : ShapedData p x.class.now d
  pub among : Has p.classes x.class.now
  pub forward : IsForward x.code.now.code
  pub enters : IsEntered x.code.now.code x.class.now Handler handler_tasks x.class.now.handlers x.code.now.code.handlers
  pub arrives : MayArrive p x.message.now x.from 0

-- it is so for some process
abbrev pub CanHandle : Delivery → Known → Type 0
CanHandle x known = (p : Program) × (d : Data) × MayHandle p x known d

-- it holds of each process for which it is so
abbrev pub Whoever : Delivery → Known → (Program → Data → Type 0) → Type 0
Whoever x known holds = (p : Program) (d : Data) → MayHandle p x known d → holds p d

-- the handler is one of the class, and the code at the entry stands for its body
pub record HasEntry (x : Delivery) (h : Handler) (entry : ℕ) : Type 0 where
  pub among : Has x.class.now.handlers h
  pub code_for : CodeFor x.code.now.code x.class.now entry [] (handler_tasks h)

-- the row that the patterns of a handler take of the message, where they match
abbrev pub row_for : Delivery → Handler → Data → Option Row
row_for x h d = matched_entry d h.message h.from (val_of x.message.now) x.from []

-- the run of one handler, tried in turn n, and of what comes after it
abbrev pub tried : Delivery → Handler → ℕ → Data → (ℕ → Data → Ran) → Ran
tried x h n d go = try_handler x.class.now h n d (row_for x h d) go

-- the run of all handlers that are open at the label where the process waits
abbrev pub all_handled : Delivery → Data → Ran
all_handled x d = handle x.class.now (val_of x.message.now) x.from (filter (is_open x.label) x.class.now.handlers) 0 d

-- how handlers stop
abbrev pub halt_of : Handled → Halt
halt_of (handled.Through turns) = AtYield
halt_of (handled.Fault kind line) = Faults kind line

-- how a handler leaves the next ones whose body stopped so, when so many turns were taken
abbrev pub handled_as : Stop → ℕ → Handled
handled_as (stop.Yield number) turns = handled.Through turns
handled_as stop.Ended turns = handled.Through turns
handled_as (stop.Fault kind line) turns = handled.Fault kind line

-- the handlers were run: the process knows what they leave, and their actions were added
pub record HasHandled (p : Program) (x : Delivery) (ran : Ran) (old new : Known) (answer : Handled) : Type 0 where
  pub mine : new.answers.me ≡ old.answers.me
  pub known : Knows new p x.class.now ran.data'
  pub actions : new.actions ≡ old.actions ++ ran.actions
  pub halt : ran.halt ≡ halt_of answer

-- two runs but for the turns that were taken and what is left to do, which a delivery does not look at
pub record IsAlike (ran other : Ran) : Type 0 where
  pub data' : ran.data' ≡ other.data'
  pub actions : ran.actions ≡ other.actions
  pub halt : ran.halt ≡ other.halt

-- after one handler: what comes after it where it came through with so many turns, and else its fault
abbrev pub goes_on : Handled → List Action → Data → (ℕ → Data → Ran) → Ran
goes_on (handled.Through turns) actions d go = ran_after actions (go turns d)
goes_on (handled.Fault kind line) actions d go = record { data' = d; todo = []; actions = actions; turns = 0; halt = Faults kind line }

-- a handler was tried in turn n of a process that knew d: whatever comes after it, the run is this one
pub record HasTried (p : Program) (x : Delivery) (h : Handler) (n : ℕ) (d : Data) (old new : Known) (answer : Handled) : Type 0 where
  pub mine : new.answers.me ≡ old.answers.me
  pub after : Data
  pub may : MayHandle p x new after
  pub actions : List Action
  pub added : new.actions ≡ old.actions ++ actions
  pub run : (go : ℕ → Data → Ran) → IsAlike (tried x h n d go) (goes_on answer actions after go)

-- THE ARRIVAL

-- the actions of a delivery whose message is told as this value
abbrev pub delivery_actions : Value → Delivery → ℕ → ℕ → Ran → List Action
delivery_actions v x time me ran = action.Got me x.from time v ∷ ran.actions ++ closing me ran.halt

-- what stands in the place of the message while handlers still read it
abbrev pub untold : Value
untold = kept.Proc 0

-- what the process knows when the message has joined the history
abbrev pub received : Delivery → ℕ → Data → Data
received x time d = received_at (val_of x.message.now) x.from time d

-- how the process stops after the handlers that waits at this yield point
abbrev pub stop_of : Handled → ℕ → Stop
stop_of (handled.Through turns) number = stop.Yield number
stop_of (handled.Fault kind line) number = stop.Fault kind line

-- the process that waits with this to do may take in the message: it stands before a yield point of its class
pub record MayTakeIn (p : Program) (x : Delivery) (time at : ℕ) (known : Known) (d : Data) (todo : List Task) : Type 0 where
  pub can : MayHandle p x known d
  pub waits : x.code.now.waits ≡ waits_of x.class.now (norm_class x.class.now).flags
  pub number : ℕ
  pub there : HasInstr x.code.now.code at (op.Yield number)
  pub point : (loops : List (List Val)) × IsPoint x.code.now.code x.class.now number loops todo

-- the message was taken in and told as this value, and the process knows and stands as the handlers leave it
pub record HasTakenIn (v : Value) (p : Program) (x : Delivery) (time : ℕ) (d : Data) (todo : List Task) (old new : Known) (place : Place) : Type 0 where
  pub known : Knows new p x.class.now (all_handled x (received x time d)).data'
  pub actions : let ran = all_handled x (received x time d) in new.actions ≡ old.actions ++ delivery_actions v x time old.answers.me ran
  pub stands : let ran = all_handled x (received x time d) in IsPlace todo place (phase_after ran.halt)
