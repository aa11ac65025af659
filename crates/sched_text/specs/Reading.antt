-- What the steps of a reader find at the front of a line.
use Rattle.std.specs.Prelude.{◌≡◌, ℕ, ◌≤◌, if◌then◌else◌, List, [], ◌∷◌, ◌++◌, codes, length, Option, Some, None, Result, Ok, Err}
use Rattle.std.specs.List.{All}
use Rattle.std.specs.Str.{bytes_eq}
use Rattle.da_lang.specs.declared.event.Event.{Event}
use Rattle.da_lang.specs.declared.event.Event.TheVariants.{Move, Take, Timeout, Deliver, Lose, Repeat, Show, Stat}
use Rattle.sched_text.specs.declared.words.Numbers.{Numbers}
use Rattle.sched_text.specs.declared.words.Numbers.TheVariants.{One, Two, Three}
use Rattle.sched_text.specs.declared.schedule.SchedFault.{SchedFault}
use Rattle.sched_text.specs.declared.schedule.SchedFault.TheVariants.{BadLine, Memory}
use Rattle.sched_text.specs.EventText.{IsNamed}
use Rattle.sched_text.specs.ScheduleText.{HasGoodPrefix, IsBadSchedule, IsLine, IsLineOf, IsSkipped, SpellsSchedule}

-- nothing follows, or a space does
abbrev pub Stops : List ℕ → Type 0
Stops [] = Unit {0}
Stops (b ∷ bs) = b ≡ 32

abbrev pub listed : Numbers → List ℕ
listed (One a) = a ∷ []
listed (Two a b) = a ∷ b ∷ []
listed (Three a b c) = a ∷ b ∷ c ∷ []

-- the numbers of an event: one to three, each of which a schedule can name
pub record AreNumbers (ns : List ℕ) : Type 0 where
  pub named : All IsNamed ns
  pub some : 1 ≤ length ns
  pub few : length ns ≤ 3

-- the event of this word and these numbers
abbrev pub one_named : List ℕ → ℕ → Option Event
one_named word p =
    if bytes_eq word (codes "move") then Some (Move p)
    else if bytes_eq word (codes "timeout") then Some (Timeout p)
    else if bytes_eq word (codes "show") then Some (Show p)
    else if bytes_eq word (codes "stat") then Some (Stat p) else None

abbrev pub three_named : List ℕ → ℕ → ℕ → ℕ → Option Event
three_named word p q i =
    if bytes_eq word (codes "deliver") then Some (Deliver p q i)
    else if bytes_eq word (codes "lose") then Some (Lose p q i)
    else if bytes_eq word (codes "repeat") then Some (Repeat p q i) else None

abbrev pub event_named : List ℕ → List ℕ → Option Event
event_named word (p ∷ []) = one_named word p
event_named word (p ∷ k ∷ []) = if bytes_eq word (codes "move") then Some (Take p k) else None
event_named word (p ∷ q ∷ i ∷ []) = three_named word p q i
event_named word _ = None

-- what a line adds to events: its event, or nothing where it is passed over
pub data Adds (line : List ℕ) (old : List Event) : List Event → Type 0 where
  passed_over : IsSkipped line → Adds line old old
  added : (e : Event) → IsLineOf e line → Adds line old (old ++ e ∷ [])

-- why a line adds nothing: it is no line of a schedule, or an event for which memory was refused
abbrev pub IsFaultAt : List ℕ → ℕ → SchedFault → Type 0
IsFaultAt line number (BadLine n) = (n ≡ number) × (IsLine line → ⊥)
IsFaultAt line number Memory = (e : Event) × IsLineOf e line

-- what a reader answers; it may want memory for an event after good lines
abbrev pub IsRead : List ℕ → Result (List Event) SchedFault → Type 0
IsRead text (Ok events) = SpellsSchedule text events
IsRead text (Err (BadLine number)) = IsBadSchedule text number
IsRead text (Err Memory) = HasGoodPrefix text
