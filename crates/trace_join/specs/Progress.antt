-- How far a join has come along the traces, and where it is at its end.
use Rattle.std.specs.Prelude.{◌≡◌, ℕ, zero, suc, Bool, true, false, List, [], ◌∷◌, ◌++◌, Some}
use Rattle.da_lang.specs.declared.event.Action.{Action}
use Rattle.da_lang.specs.declared.event.Event.{Event}
use Rattle.da_lang.specs.declared.event.Event.TheVariants.{Move, Take, Timeout}
use Rattle.da_lang.specs.declared.program.Program.{Program}
use Rattle.da_lang.specs.World.{at_number}
use Rattle.da_system.specs.Channels.{or_empty}
use Rattle.da_system.specs.SystemStep.{AfterEvent, SystemState, start, sys_step}
use Rattle.trace_join.specs.Cuts.{Transition}
use Rattle.trace_join.specs.Joins.{IsPlain, RunsWhole, told_by}
use Rattle.trace_join.specs.Remains.{Ahead, IsStuck}
use Rattle.trace_join.specs.Traces.{part}

-- the trace of process p, empty where there is none
abbrev pub trace_of : List (List Action) → ℕ → List Action
trace_of traces p = or_empty (at_number traces p)

-- The event of a move that `took` tells with this number, or of a timeout.
abbrev pub took_event : ℕ → ℕ → (times_out : Bool) → Event
took_event p k true = Timeout p
took_event p zero false = Move p
took_event p (suc k) false = Take p (suc k)

-- plain events lead from the first state to the second by these actions
pub data Reaches (program : Program) : SystemState → List Event → SystemState → List Action → Type 0 where
  rests : (s : SystemState) → Reaches program s [] s []
  moves : (s s' : SystemState) (e : Event) (events : List Event) (after : AfterEvent) (actions : List Action)
      → IsPlain e → sys_step program s e ≡ Some after → Reaches program after.state events s' actions
      → Reaches program s (e ∷ events) s' (after.actions ++ actions)

-- the events lead to state g, where this is left of each trace, and no run of which each process tells a beginning of its
-- trace lacks a message that is not wanted after g
pub record Came (program : Program) (traces : List (List Action)) (events : List Event) (g : SystemState) (lefts : ℕ → List Action) : Type 0 where
  pub actions : List Action
  pub transitions : ℕ → List Transition
  pub reaches : Reaches program (start program) events g actions
  pub told : (p : ℕ) (trace : List Action) → at_number traces p ≡ Some trace → trace ≡ part p actions ++ lefts p
  pub ahead : Ahead program (start program) g (trace_of traces) lefts transitions

-- the events lead to where no process can go on along its trace
pub record Exhausts (program : Program) (traces : List (List Action)) (events : List Event) : Type 0 where
  pub runs : RunsWhole program events
  pub state : SystemState
  pub lefts : ℕ → List Action
  pub transitions : ℕ → List Transition
  pub told : (p : ℕ) (trace : List Action) → at_number traces p ≡ Some trace → trace ≡ told_by program events p ++ lefts p
  pub ahead : Ahead program (start program) state (trace_of traces) lefts transitions
  pub stuck : IsStuck program state lefts
