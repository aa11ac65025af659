-- The actions that a trace of one process spells, and the first line that spells none.
use Rattle.std.specs.Prelude.{◌≡◌, ◌==◌, ℕ, ◌+◌, ◌<◌, ◌≤◌, ◌⊎◌, if◌then◌else◌, List, [], ◌∷◌, ◌++◌, length, map, Option, Some, None}
use Rattle.std.specs.List.{All, slice_split}
use Rattle.da_lang.specs.declared.event.Action.{Action}
use Rattle.da_lang.specs.declared.event.Action.TheVariants.{Took, Sent, Got, Lost, Again, Out, End, Fault, Answer, Kept, Stop}
use Rattle.sched_text.specs.ActionLine.{IsAction, IsLineOf, bare_line}

-- the bytes that a trace may have
abbrev pub trace_limit : ℕ
trace_limit = 1048576

-- the process that tells an action, where it is of the six kinds that nodes tell
abbrev pub teller : Action → Option ℕ
teller (Took p k) = Some p
teller (Sent p q t v) = Some p
teller (Got q p t v) = Some q
teller (Lost p q t) = None
teller (Again p q t) = None
teller (Out p v) = Some p
teller (End p) = Some p
teller (Fault p kind line) = Some p
teller (Answer p n rows) = None
teller (Kept p n) = None
teller (Stop i) = None

-- the process tells each of the actions
abbrev pub AllOf : ℕ → List Action → Type 0
AllOf p actions = All (λ a. teller a ≡ Some p) actions

-- the lines of the parts between the LFs of a text: an empty last part is no line
abbrev pub bare_parts : List (List ℕ) → List (List ℕ)
bare_parts [] = []
bare_parts (x ∷ []) = if length x == 0 then [] else x ∷ []
bare_parts (x ∷ y ∷ more) = x ∷ bare_parts (y ∷ more)

-- the lines of a trace: each ends with LF, and the last may lack it
abbrev pub trace_lines : List ℕ → List (List ℕ)
trace_lines text = bare_parts (slice_split (λ b. b == 10) text)

-- a line of this process
abbrev pub IsTraceLine : ℕ → List ℕ → Type 0
IsTraceLine p line = (a : Action) × (teller a ≡ Some p) × IsLineOf a line

-- the text is a trace of process p: the lines of these actions
pub record SpellsTrace (p : ℕ) (text : List ℕ) (actions : List Action) : Type 0 where
  pub size : length text ≤ trace_limit
  pub own : AllOf p actions
  pub kept : All IsAction actions
  pub is : trace_lines text ≡ map bare_line actions

-- the line of this number, counted from 1, is the first that is no line of process p
pub record IsFirstBad (p : ℕ) (all : List (List ℕ)) (number : ℕ) : Type 0 where
  pub before : List (List ℕ)
  pub line : List ℕ
  pub after : List (List ℕ)
  pub cut : all ≡ before ++ line ∷ after
  pub counted : number ≡ length before + 1
  pub good : All (IsTraceLine p) before
  pub bad : IsTraceLine p line → ⊥

-- the text is no trace of process p: its first bad line, or 0 where it is too long
abbrev pub IsBadTrace : ℕ → List ℕ → ℕ → Type 0
IsBadTrace p text number = ((trace_limit < length text) × (number ≡ 0)) ⊎ ((length text ≤ trace_limit) × IsFirstBad p (trace_lines text) number)

-- The lines of a text up to one are lines of process p. Where it is read, this one may want memory.
pub record HasGoodPrefix (p : ℕ) (text : List ℕ) : Type 0 where
  pub size : length text ≤ trace_limit
  pub before : List (List ℕ)
  pub line : List ℕ
  pub after : List (List ℕ)
  pub cut : trace_lines text ≡ before ++ line ∷ after
  pub good : All (IsTraceLine p) before
