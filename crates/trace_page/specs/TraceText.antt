-- The traces that a page is drawn of: every line is that of an action.
use Rattle.std.specs.Prelude.{◌≡◌, ℕ, ◌+◌, ◌<◌, ◌≤◌, ◌⊎◌, List, ◌∷◌, ◌++◌, length, map}
use Rattle.std.specs.List.{All}
use Rattle.std.specs.Str.Lines.{lines}
use Rattle.da_lang.specs.declared.event.Action.{Action}
use Rattle.sched_text.specs.ActionLine.{IsAction, IsActionLine, bare_line}

-- the bytes that a trace may have
abbrev pub trace_limit : ℕ
trace_limit = 16777216

-- the text is a trace
pub record IsTrace (text : List ℕ) : Type 0 where
  pub size : length text ≤ trace_limit
  pub good : All IsActionLine (lines text)

-- the text is a trace of these actions: its lines are theirs
pub record SpellsTrace (text : List ℕ) (actions : List Action) : Type 0 where
  pub size : length text ≤ trace_limit
  pub each : All IsAction actions
  pub is : lines text ≡ map bare_line actions

-- the line of this number, counted from 1, is the first that is no line of an action
pub record IsFirstBad (all : List (List ℕ)) (number : ℕ) : Type 0 where
  pub before : List (List ℕ)
  pub line : List ℕ
  pub after : List (List ℕ)
  pub cut : all ≡ before ++ line ∷ after
  pub counted : number ≡ length before + 1
  pub good : All IsActionLine before
  pub bad : IsActionLine line → ⊥

-- the text is no trace: its first bad line, or 0 where it is too long
abbrev pub IsBadTrace : List ℕ → ℕ → Type 0
IsBadTrace text number = ((trace_limit < length text) × (number ≡ 0)) ⊎ ((length text ≤ trace_limit) × IsFirstBad (lines text) number)
