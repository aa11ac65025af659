-- Which schedule is found, how short it is made, and what is written of it.
use Rattle.std.specs.Prelude.{◌≡◌, ℕ, ◌+◌, ◌<◌, ◌≤◌, ◌==◌, ◌⊎◌, not, List, [], ◌∷◌, ◌++◌, codes, decimal, length, Option, Some, None}
use Rattle.std.specs.List.{filter, flat_map, remove}
use Rattle.da_lang.specs.declared.event.Event.{Event}
use Rattle.da_lang.specs.declared.program.Program.{Program}
use Rattle.da_outside.specs.Outside.{AppendsPrefix}
use Rattle.da_system.specs.SourceRun.{src_run}
use Rattle.sched_text.specs.EventText.{event_line}
use Rattle.sched_text.specs.ScheduleText.{SpellsSchedule}
use Rattle.schedule_pick.specs.Picked.{hunted}
use Rattle.schedule_hunt.specs.declared.what.Goal.{Goal}
use Rattle.schedule_hunt.specs.declared.what.Trials.{Trials}
use Rattle.schedule_hunt.specs.Shown.{Reaches}

-- the events run with no stop, and their whole run shows it
pub record IsShownBy (program : Program) (what : Goal) (events : List Event) : Type 0 where
  pub allowed : (src_run program events).stop ≡ None
  pub shows : Reaches program what (src_run program events)

-- WHICH SCHEDULE

-- the schedule that is generated from a number
abbrev pub generated : Program → Trials → ℕ → List Event
generated program trials number = hunted program trials.setting trials.most number

-- none of so many numbers from the start on gives a schedule that shows it
abbrev pub ShowsNoneOf : Program → Goal → Trials → ℕ → Type 0
ShowsNoneOf program what trials count =
    (number : ℕ) → trials.start ≤ number → number < trials.start + count → IsShownBy program what (generated program trials number) → ⊥

abbrev pub ShowsNone : Program → Goal → Trials → Type 0
ShowsNone program what trials = ShowsNoneOf program what trials trials.count

-- this number gives one that shows it, and none of those before it does
pub record IsLeast (program : Program) (what : Goal) (trials : Trials) (number : ℕ) : Type 0 where
  pub from : trials.start ≤ number
  pub to : number < trials.start + trials.count
  pub shown : IsShownBy program what (generated program trials number)
  pub least : (earlier : ℕ) → trials.start ≤ earlier → earlier < number → IsShownBy program what (generated program trials earlier) → ⊥

-- HOW SHORT

-- some events of a schedule, in its order
pub data IsPart : List Event → List Event → Type 0 where
  none : IsPart [] []
  kept : (e : Event) (part whole : List Event) → IsPart part whole → IsPart (e ∷ part) (e ∷ whole)
  left : (e : Event) (part whole : List Event) → IsPart part whole → IsPart part (e ∷ whole)

-- the events show it, and without any one of them they stop or do not
pub record IsShort (program : Program) (what : Goal) (events : List Event) : Type 0 where
  pub shown : IsShownBy program what events
  pub needed : (place : ℕ) → place < length events → IsShownBy program what (remove events place) → ⊥

-- WHAT IS WRITTEN

-- a remark in one line: what it says, without ends of lines
abbrev pub remark_line : List ℕ → List ℕ
remark_line words = codes "# " ++ filter (λ byte. not (byte == 10)) words ++ codes "\n"

-- the lines of the events, and a remark
abbrev pub found_text : List Event → List ℕ → List ℕ
found_text events words = flat_map event_line events ++ remark_line words

-- a text of the events that is a schedule of exactly them; or none, where even with an empty remark it would be no schedule
abbrev pub IsTold : List Event → Option (List ℕ) → Type 0
IsTold events (Some text) = (words : List ℕ) × (text ≡ found_text events words) × SpellsSchedule text events
IsTold events None = SpellsSchedule (found_text events []) events → ⊥

-- a text of a schedule that is made short, which is a schedule itself
pub record IsTextOf (program : Program) (what : Goal) (whole : List Event) (text : List ℕ) : Type 0 where
  pub events : List Event
  pub part : IsPart events whole
  pub short : IsShort program what events
  pub words : List ℕ
  pub text_is : text ≡ found_text events words
  pub spells : SpellsSchedule text events

-- a schedule that is made short, of which there is no such text
pub record IsUnspelled (program : Program) (what : Goal) (whole : List Event) : Type 0 where
  pub events : List Event
  pub part : IsPart events whole
  pub short : IsShort program what events
  pub never : SpellsSchedule (found_text events []) events → ⊥

-- the text of the schedule of the least number that shows it
pub record IsFound (program : Program) (what : Goal) (trials : Trials) (text : List ℕ) : Type 0 where
  pub number : ℕ
  pub least : IsLeast program what trials number
  pub told : IsTextOf program what (generated program trials number) text

-- the schedule of the least number that shows it has no such text
pub record IsFoundUnspelled (program : Program) (what : Goal) (trials : Trials) : Type 0 where
  pub number : ℕ
  pub least : IsLeast program what trials number
  pub unspelled : IsUnspelled program what (generated program trials number)

-- the line that says that none of so many shows it
abbrev pub none_line : ℕ → List ℕ
none_line count = codes "none " ++ decimal count ++ codes "\n"

-- the text that answers
abbrev pub IsReply : Program → Goal → Trials → List ℕ → Type 0
IsReply program what trials text = IsFound program what trials text ⊎ (ShowsNone program what trials × (text ≡ none_line trials.count))

-- nothing was written, or a prefix of a text that answers
abbrev pub HasBegun : Program → Goal → Trials → Option (List ℕ) → Option (List ℕ) → Type 0
HasBegun program what trials before after =
    (after ≡ before) ⊎ ((text : List ℕ) × IsReply program what trials text × AppendsPrefix before after text)
