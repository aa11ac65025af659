-- What a reader of traces answers.
use Rattle.std.specs.Prelude.{◌≡◌, ℕ, ⊤, List, [], ◌∷◌, ◌++◌, Result, Ok, Err}
use Rattle.da_lang.specs.declared.event.Action.{Action}
use Rattle.sched_text.specs.ActionLine.{IsActionLine, IsLineOf}
use Rattle.trace_page.specs.declared.trace.TraceFault.{TraceFault}
use Rattle.trace_page.specs.declared.trace.TraceFault.TheVariants.{BadLine, Memory}
use Rattle.trace_page.specs.TraceText.{IsBadTrace, SpellsTrace}

-- a line adds its action
pub record Adds (line : List ℕ) (old new : List Action) : Type 0 where
  pub action : Action
  pub good : IsLineOf action line
  pub is : new ≡ old ++ action ∷ []

-- why a line adds nothing: it is no line of an action, or memory was refused
abbrev pub IsFaultAt : List ℕ → ℕ → TraceFault → Type 0
IsFaultAt line number (BadLine n) = (n ≡ number) × (IsActionLine line → ⊥)
IsFaultAt line number Memory = ⊤

abbrev pub IsRead : List ℕ → Result (List Action) TraceFault → Type 0
IsRead text (Ok actions) = SpellsTrace text actions
IsRead text (Err (BadLine number)) = IsBadTrace text number
IsRead text (Err Memory) = ⊤
