-- What the steps of a reader of traces find.
use Rattle.std.specs.Prelude.{◌≡◌, ℕ, ⊤, List, [], ◌∷◌, ◌++◌, Some, Result, Ok, Err}
use Rattle.da_lang.specs.declared.event.Action.{Action}
use Rattle.sched_text.specs.declared.trace.TraceFault.{TraceFault}
use Rattle.sched_text.specs.declared.trace.TraceFault.TheVariants.{BadLine, Memory}
use Rattle.sched_text.specs.ActionLine.{IsLineOf}
use Rattle.sched_text.specs.TraceText.{HasGoodPrefix, IsBadTrace, IsTraceLine, SpellsTrace, teller}

-- no other action has this line
abbrev pub IsOnlyOf : List ℕ → Action → Type 0
IsOnlyOf line a = (b : Action) → IsLineOf b line → b ≡ a

-- the line is that of this action of the process, and of no other
pub record IsOwnLineOf (p : ℕ) (line : List ℕ) (a : Action) : Type 0 where
  pub own : teller a ≡ Some p
  pub line_of : IsLineOf a line
  pub only : IsOnlyOf line a

-- a line adds its action
abbrev pub Adds : ℕ → List ℕ → List Action → List Action → Type 0
Adds p line old new = (a : Action) × IsOwnLineOf p line a × (new ≡ old ++ a ∷ [])

-- why a line adds nothing: it is no line of the process, or memory was refused
abbrev pub IsFaultAt : ℕ → List ℕ → ℕ → TraceFault → Type 0
IsFaultAt p line number (BadLine n) = (n ≡ number) × (IsTraceLine p line → ⊥)
IsFaultAt p line number Memory = ⊤

-- what a reader answers; it may want memory for a line after good ones
abbrev pub IsRead : ℕ → List ℕ → Result (List Action) TraceFault → Type 0
IsRead p text (Ok actions) = SpellsTrace p text actions
IsRead p text (Err (BadLine number)) = IsBadTrace p text number
IsRead p text (Err Memory) = HasGoodPrefix p text
