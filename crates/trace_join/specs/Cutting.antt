-- The run of one process along its trace, as the code makes it: step by step, from each world for which the process in code stands.
use Rattle.std.specs.Prelude.{◌≡◌, ◌⊎◌, ℕ, Bool, List, [], ◌∷◌, ◌++◌, length, Option, Some, None, Result, IsOk, IsErrOf}
use Rattle.da_values.specs.declared.value.Value.{Value}
use Rattle.da_lang.specs.declared.event.Action.{Action}
use Rattle.da_lang.specs.declared.program.Program.{Program}
use Rattle.da_lang.specs.Steps.{Step, Stepped, proc_step}
use Rattle.da_lang.specs.World.{World}
use Rattle.da_core.specs.declared.place.StepFault.{StepFault}
use Rattle.da_core.specs.declared.place.StepFault.TheVariants.{Forbidden}
use Rattle.da_core.specs.declared.place.Stopped.{Stopped}
use Rattle.da_core.specs.Arrivals.{MayArrive, arrival}
use Rattle.trace_join.specs.declared.piece.Piece.{Piece}
use Rattle.trace_join.specs.Cuts.{AsksInVain, Follows, IsOver, is_timeout, step_asked}

-- a call of the process in code made a step, or was forbidden
abbrev pub HowMade : Result Stopped StepFault → (times_out : Bool) → Option Bool → Type 0
HowMade made times_out None = IsErrOf made Forbidden
HowMade made times_out (Some told) = IsOk made × (told ≡ times_out)

-- the step led to a world that is now stood for, and what it tells was added; it is a timeout or not
pub record WasMade (program : Program) (w : World) (step : Step) (stands : World → Type 0) (times_out : Bool) (old new : List Action) : Type 0 where
  pub after : Stepped
  pub makes : proc_step program w step ≡ Some after
  pub now_stands : stands after.world
  pub timeout : times_out ≡ is_timeout step
  pub added : new ≡ old ++ after.actions

-- it was made, or it may not be made
abbrev pub MadeOrNot : Program → World → Step → (World → Type 0) → (old new : List Action) → Option Bool → Type 0
MadeOrNot program w step stands old new None = proc_step program w step ≡ None
MadeOrNot program w step stands old new (Some times_out) = WasMade program w step stands times_out old new

-- the message was taken in, or it may not be, or no process can have sent it
abbrev pub TakenInOrNot : Program → World → Value → ℕ → ℕ → (World → Type 0) → (old new : List Action) → Option Bool → Type 0
TakenInOrNot program w m from time stands old new None = (proc_step program w (arrival m from time) ≡ None) ⊎ (MayArrive program m from time → ⊥)
TakenInOrNot program w m from time stands old new (Some times_out) = WasMade program w (arrival m from time) stands times_out old new

-- the step that the action asks for was made, or it may not be made, or no process can have sent the message that it asks for
abbrev pub AskedOrNot : Program → World → Action → (World → Type 0) → (old new : List Action) → Option Bool → Type 0
AskedOrNot program w asked stands old new None =
    ((step : Step) → step_asked w (asked ∷ []) ≡ Some step → proc_step program w step ≡ None) ⊎ AsksInVain program (asked ∷ [])
AskedOrNot program w asked stands old new (Some times_out) =
    (step : Step) × (step_asked w (asked ∷ []) ≡ Some step) × WasMade program w step stands times_out old new

-- the process goes on along its trace by a step that tells this piece of it, and leaves the rest
pub record GoesOn (program : Program) (w : World) (trace left : List Action) (stands : World → Type 0) (piece : Piece) : Type 0 where
  pub step : Step
  pub after : Stepped
  pub follows : Follows program w trace step after left
  pub is : piece ≡ record { size = length after.actions; times_out = is_timeout step }
  pub now_stands : stands after.world

-- it cannot go on, or waits for a message that no process can send
abbrev pub Stops : Program → World → List Action → Type 0
Stops program w trace = IsOver program w trace ⊎ AsksInVain program trace
