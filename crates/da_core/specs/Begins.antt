-- How a move goes on in the code, and how the process stands after it.
use Rattle.std.specs.Prelude.{◌≡◌, ℕ, zero, suc, ◌≤◌, ◌<◌, Bool, true, false, not, ◌&&◌, if◌then◌else◌, List, [], ◌∷◌, ◌++◌, length, Option, Some, None, slice_get}
use Rattle.std.specs.List.{list_any}
use Rattle.std.specs.Option.{option_map}
use Rattle.da_lang.specs.declared.code.Instr.{Instr}
use Rattle.da_lang.specs.declared.code.Instr.TheVariants as op
use Rattle.da_lang.specs.declared.event.Action.{Action}
use Rattle.da_lang.specs.declared.event.Action.TheVariants as action
use Rattle.da_lang.specs.declared.program.Class.{Class}
use Rattle.da_lang.specs.declared.program.Program.{Program}
use Rattle.da_lang.specs.Accepted.{IsAccepted}
use Rattle.da_lang.specs.Runs.{Ran, run_to_yield}
use Rattle.da_lang.specs.Shaped.{ShapedData, ShapedTasks}
use Rattle.da_lang.specs.Turns.{bind_found}
use Rattle.da_lang.specs.Steps.{Step, closing, moved, phase_after, proc_step}
use Rattle.da_lang.specs.World.{Data, Task, World, Phase, Waiting}
use Rattle.da_machine.specs.declared.code.Code.{Code}
use Rattle.da_machine.specs.declared.code.YieldPoint.{YieldPoint}
use Rattle.da_machine.specs.declared.machine.Machine.{Machine}
use Rattle.da_machine.specs.declared.machine.Stop.{Stop}
use Rattle.da_machine.specs.declared.machine.Stop.TheVariants as stop
use Rattle.da_machine.specs.CodeFor.{CodeFor}
use Rattle.da_machine.specs.Forward.{IsForward}
use Rattle.da_core.specs.declared.compiled.ClassCode.{ClassCode}
use Rattle.da_core.specs.declared.process.Core.{Core}
use Rattle.da_core.specs.declared.known.Known.{Known}
use Rattle.da_core.specs.declared.moves.Begin.{Begin}
use Rattle.da_core.specs.declared.place.Place.{Place}
use Rattle.da_core.specs.declared.place.Place.TheVariants as place
use Rattle.da_core.specs.declared.waits.Alternative.{Alternative}
use Rattle.da_core.specs.declared.waits.Wait.{Wait}
use Rattle.da_core.specs.Compiled.{IsCodeFor, code_of}
use Rattle.da_core.specs.Known.{Knows}
use Rattle.da_core.specs.StandsFor.{IsPlace, IsWaiting, last_number, program_of}
use Rattle.da_core.specs.Waits.{waits_of}
use Rattle.query_plan.specs.Nodes.{node_rows}
use Rattle.query_plan.specs.Questions.{norm_class}
use Rattle.query_plan.specs.Told.{has_row}

-- ENTRIES OF THE CODE

-- the yield point of this instruction
abbrev pub point_of : Code → Option Instr → Option YieldPoint
point_of code (Some (op.Yield number)) = slice_get code.yields number
point_of code _ = None

abbrev pub entry_of : Option YieldPoint → ℕ → Option ℕ
entry_of None n = None
entry_of (Some point) n = slice_get point.entries n

-- entry n, counted from 0, of the yield point that stands at a place
abbrev pub entry_after : Code → ℕ → ℕ → Option ℕ
entry_after code at n = entry_of (point_of code (slice_get code.instrs at)) n

-- the yield point itself was the first turn
abbrev pub behind_turn : Option ℕ → Option Begin
behind_turn None = None
behind_turn (Some entry) = Some (record { entry = entry; turns = 1 })

abbrev pub if_flag : Option Bool → Option Begin → Option Begin
if_flag (Some true) begin = begin
if_flag _ begin = None

-- WHAT IS WAITED FOR

-- where this instruction is a yield point
abbrev pub wait_behind : ClassCode → Option Instr → Option Wait
wait_behind code (Some (op.Yield number)) = slice_get code.waits number
wait_behind code _ = None

-- at a place in the code
abbrev pub wait_at : ClassCode → ℕ → Option Wait
wait_at code at = wait_behind code (slice_get code.code.instrs at)

-- the label of a yield point, if it has one
abbrev pub label_of : Option Wait → Option ℕ
label_of None = None
label_of (Some wait) = wait.label

-- alternative n, counted from 0, of those of a yield point, if they are there
abbrev pub alternative_of : Option Wait → ℕ → Option Alternative
alternative_of None n = None
alternative_of (Some wait) n = slice_get wait.alternatives n

-- the alternative that the move of this number takes at a place in the code; the move 0 takes none
abbrev pub alternative_at : ClassCode → ℕ → ℕ → Option Alternative
alternative_at code at zero = None
alternative_at code at (suc n) = alternative_of (wait_at code at) n

-- WHERE IT GOES ON

-- whether the flag of an alternative has a row, if there is one
abbrev pub flag_told : Class → Data → Option Alternative → Option Bool
flag_told class d alternative = option_map (λ a. has_row (node_rows d (norm_class class).nodes a.flag)) alternative

-- where the move of this number goes on at an `await`, if it is allowed
abbrev pub begin_at_await : Class → Data → ClassCode → ℕ → ℕ → Option Begin
begin_at_await class d code at zero = None
begin_at_await class d code at (suc n) = if_flag (flag_told class d (alternative_at code at (suc n))) (behind_turn (entry_after code.code at n))

-- where it goes on, if it is allowed, for a process of the class that knows d and stands so
abbrev pub begin_at : Class → Data → ClassCode → ℕ → Place → ℕ → Option Begin
begin_at class d code at place.New zero = Some (record { entry = at; turns = 0 })
begin_at class d code at place.Label zero = behind_turn (entry_after code.code at 0)
begin_at class d code at (place.Await count) k = begin_at_await class d code at k
begin_at class d code at _ k = None

-- WHERE A TIMEOUT GOES ON

-- whether the flag of some of these alternatives has a row
abbrev pub some_told : Class → Data → List Alternative → Bool
some_told class d alternatives = list_any (λ a. has_row (node_rows d (norm_class class).nodes a.flag)) alternatives

-- whether the time may run out: there is a block for that, and no alternative may be taken
abbrev pub may_time_out : Class → Data → Option Wait → Bool
may_time_out class d None = false
may_time_out class d (Some wait) = wait.has_timeout && not (some_told class d wait.alternatives)

-- where it goes on at an `await` of so many alternatives, if it is allowed: its entry stands after theirs
abbrev pub timeout_at : Class → Data → ClassCode → ℕ → ℕ → Option Begin
timeout_at class d code at count = if may_time_out class d (wait_at code at) then behind_turn (entry_after code.code at count) else None

-- THE LEAST ROW

-- what a process knows when it has bound the least row that the alternative finds, if it finds one
abbrev pub bound_by : Class → Option Alternative → Data → Data
bound_by class None d = d
bound_by class (Some alternative) d = bind_found class.queries alternative.found alternative.binds d

-- What is kept stands for a process of the class of an accepted program, and when the process has bound a row it knows d, which is
-- as types say. It has this to do, and the code at the entry stands for it.
pub record MayRun (p : Program) (class : Class) (code : ClassCode) (known : Known) (m : Machine) (k : ℕ) (begin : Begin) (d : Data) (todo : List Task) : Type 0 where
  pub accepted : IsAccepted p
  pub forward : IsForward code.code
  pub waits : code.waits ≡ waits_of class (norm_class class).flags
  pub before : Data
  pub stands : Knows known p class before
  pub bound : d ≡ bound_by class (alternative_at code m.place k) before
  pub knows : ShapedData p class d
  pub tasks : ShapedTasks p class d.me todo
  pub code_for : CodeFor code.code class begin.entry m.loops todo
  pub early : begin.turns ≤ 1

-- the step is allowed, and is the run from this entry of a process that knows d, told with this number
pub record CanMove (core : Core) (w : World) (step : Step) (k : ℕ) (code : ClassCode) (begin : Begin) : Type 0 where
  pub place : ℕ
  pub class : Class
  pub d : Data
  pub todo : List Task
  pub code_is : code_of core.compiled.now w.data'.me ≡ Some code
  pub is : IsCodeFor (program_of core) place class code
  pub mine : d.me ≡ w.data'.me
  pub leads : proc_step (program_of core) w step ≡ Some (moved w.data'.me k (run_to_yield class begin.turns d todo))
  pub may : MayRun (program_of core) class code core.known core.machine k begin d todo

-- HOW THE PROCESS STANDS AFTER IT

-- the code stopped before a yield point that is there, with what is waited for at it; or it did not stop before one
pub record HasPoint (code : ClassCode) (number : ℕ) : Type 0 where
  pub point : YieldPoint
  pub wait : Wait
  pub there : slice_get code.code.yields number ≡ Some point
  pub waits : slice_get code.waits number ≡ Some wait

abbrev pub MayStop : ClassCode → Stop → Type 0
MayStop code (stop.Yield number) = HasPoint code number
MayStop code stop.Ended = Unit {0}
MayStop code (stop.Fault kind line) = Unit {0}

abbrev pub with_action : Known → Action → Known
with_action known a = record known { actions = known.actions ++ a ∷ [] }

abbrev pub place_at : Bool → ℕ → Place
place_at true count = place.Label
place_at false count = place.Await count

-- the numbers of the alternatives and of a timeout have 32 bits
abbrev pub AreFew : Bool → ℕ → Type 0
AreFew true count = Unit {0}
AreFew false count = count < last_number

-- it waits there, at the yield point of this number
pub record StandsAt (code : ClassCode) (number : ℕ) (place : Place) : Type 0 where
  pub has : HasPoint code number
  pub is : place ≡ place_at has.point.label (length has.wait.alternatives)
  pub few : AreFew has.point.label (length has.wait.alternatives)

-- where the process stands whose code stopped so; the end and a fault are told
abbrev pub HasStopped : ClassCode → Known → Known → Stop → Place → Type 0
HasStopped code old new (stop.Yield number) stands = (new ≡ old) × StandsAt code number stands
HasStopped code old new stop.Ended stands = (new ≡ with_action old (action.End old.answers.me)) × (stands ≡ place.Ended)
HasStopped code old new (stop.Fault kind line) stands = (new ≡ with_action old (action.Fault old.answers.me kind line)) × (stands ≡ place.Faulted)

-- the process stands there after an event
abbrev pub settled : Core → Place → Core
settled core stands = record core { place = stands; spent = false }

-- the actions of a move
abbrev pub move_actions : ℕ → ℕ → Ran → List Action
move_actions me k ran = action.Took me k ∷ ran.actions ++ closing me ran.halt

-- where the machine stands after a move
abbrev pub IsAfter : Class → ClassCode → Machine → List Task → Phase → Type 0
IsAfter class code m todo Waiting = IsWaiting class code.code m todo
IsAfter class code m todo _ = Unit {0}

-- the run was made, the process knows and stands as it leaves it, and the machine has no values
pub record HasRun (p : Program) (class : Class) (code : ClassCode) (me k : ℕ) (ran : Ran) (old new : Known) (m : Machine) (place : Place) : Type 0 where
  pub known : Knows new p class ran.data'
  pub actions : new.actions ≡ old.actions ++ move_actions me k ran
  pub stands : IsPlace ran.todo place (phase_after ran.halt)
  pub behind : IsAfter class code m ran.todo (phase_after ran.halt)
  pub no_values : m.stack ≡ []
