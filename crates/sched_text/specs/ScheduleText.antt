-- The events that a schedule's text spells, and the first line that spells nothing.
use Rattle.std.specs.Prelude.{◌≡◌, ℕ, ◌+◌, ◌<◌, ◌≤◌, ◌⊎◌, List, [], ◌∷◌, ◌++◌, length}
use Rattle.std.specs.List.{All}
use Rattle.std.specs.Str.Lines.{lines}
use Rattle.da_lang.specs.declared.event.Event.{Event}
use Rattle.sched_text.specs.EventText.{HasNames, event_text}

-- the bytes that a schedule may have
abbrev pub schedule_limit : ℕ
schedule_limit = 16777216

-- a line that is passed over: it is empty or begins with `#`
abbrev pub IsSkipped : List ℕ → Type 0
IsSkipped [] = Unit {0}
IsSkipped (b ∷ bs) = b ≡ 35

-- a line that is this event
pub record IsLineOf (e : Event) (line : List ℕ) : Type 0 where
  pub names : HasNames e
  pub is : line ≡ event_text e

-- a line of a schedule
abbrev pub IsLine : List ℕ → Type 0
IsLine line = IsSkipped line ⊎ ((e : Event) × IsLineOf e line)

-- the lines are these events
pub data SpellsLines : List (List ℕ) → List Event → Type 0 where
  none : SpellsLines [] []
  skipped : (line : List ℕ) (more : List (List ℕ)) (events : List Event) → IsSkipped line → SpellsLines more events → SpellsLines (line ∷ more) events
  event : (line : List ℕ) (more : List (List ℕ)) (e : Event) (events : List Event) → IsLineOf e line → SpellsLines more events → SpellsLines (line ∷ more) (e ∷ events)

-- the line of this number, counted from 1, is the first that is no line of a schedule
pub record IsFirstBad (all : List (List ℕ)) (number : ℕ) : Type 0 where
  pub before : List (List ℕ)
  pub line : List ℕ
  pub after : List (List ℕ)
  pub cut : all ≡ before ++ line ∷ after
  pub counted : number ≡ length before + 1
  pub good : All IsLine before
  pub bad : IsLine line → ⊥

-- The text is a schedule of these events. Its lines end with LF or CR and LF; the last may lack its LF.
pub record SpellsSchedule (text : List ℕ) (events : List Event) : Type 0 where
  pub size : length text ≤ schedule_limit
  pub spelled : SpellsLines (lines text) events

-- the text is no schedule: its first bad line, or 0 where it is too long
abbrev pub IsBadSchedule : List ℕ → ℕ → Type 0
IsBadSchedule text number = ((schedule_limit < length text) × (number ≡ 0)) ⊎ ((length text ≤ schedule_limit) × IsFirstBad (lines text) number)

-- The lines of a text up to an event are lines of a schedule. Where it is read, this event may want memory.
pub record HasGoodPrefix (text : List ℕ) : Type 0 where
  pub size : length text ≤ schedule_limit
  pub before : List (List ℕ)
  pub line : List ℕ
  pub after : List (List ℕ)
  pub cut : lines text ≡ before ++ line ∷ after
  pub good : All IsLine before
  pub event : Event
  pub is : IsLineOf event line
