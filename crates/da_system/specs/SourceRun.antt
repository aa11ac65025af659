-- The run of a schedule by the source semantics: what it does, where it stops, and the state that it leaves.
use Rattle.std.specs.Prelude.{◌≡◌, ℕ, ◌+◌, List, [], ◌∷◌, ◌++◌, Option, Some, None}
use Rattle.da_lang.specs.declared.event.Action.{Action}
use Rattle.da_lang.specs.declared.event.Action.TheVariants.{Stop}
use Rattle.da_lang.specs.declared.event.Event.{Event}
use Rattle.da_lang.specs.declared.program.Program.{Program}
use Rattle.da_system.specs.SystemStep.{AfterEvent, SystemState, start, sys_step}

-- what a run does, the number of the first event that is not allowed, and the state after the events before it
pub record SrcRun : Type 0 where
  pub actions : List Action
  pub stop : Option ℕ
  pub state : SystemState

-- these actions, and then the rest of the run
abbrev pub and_then : List Action → SrcRun → SrcRun
and_then actions rest = record rest { actions = actions ++ rest.actions }

-- what a run does at event i by its step: it stops where the event is not allowed
abbrev pub at_event : ℕ → SystemState → Option AfterEvent → (SystemState → SrcRun) → SrcRun
at_event i s None rest = record { actions = Stop i ∷ []; stop = Some i; state = s }
at_event i s (Some after) rest = and_then after.actions (rest after.state)

-- the events run from this state, and are numbered from i on
abbrev pub src_run_from : Program → ℕ → SystemState → List Event → SrcRun
src_run_from program i s [] = record { actions = []; stop = None; state = s }
src_run_from program i s (e ∷ es) = at_event i s (sys_step program s e) (λ next. src_run_from program (i + 1) next es)

abbrev pub src_run : Program → List Event → SrcRun
src_run program events = src_run_from program 1 (start program) events

-- the last of these actions is the stop at event i
abbrev pub EndsByStop : List Action → ℕ → Type 0
EndsByStop actions i = (before : List Action) × (actions ≡ before ++ Stop i ∷ [])
