-- What the search among numbers gives.
use Rattle.std.specs.Prelude.{◌≡◌, ℕ, Bool, true, false, List, Option, Some, None}
use Rattle.da_lang.specs.declared.event.Event.{Event}
use Rattle.da_lang.specs.declared.program.Program.{Program}
use Rattle.schedule_hunt.specs.declared.hunting.Reply.{Reply}
use Rattle.schedule_hunt.specs.declared.what.Goal.{Goal}
use Rattle.schedule_hunt.specs.declared.what.Trials.{Trials}
use Rattle.schedule_hunt.specs.Hunt.{IsFound, IsFoundUnspelled, IsLeast, IsTextOf, IsUnspelled, ShowsNone, generated, none_line}

-- the schedule of the least number that shows it, or none does
abbrev pub IsSought : Program → Goal → Trials → Option (List Event) → Type 0
IsSought program what trials None = ShowsNone program what trials
IsSought program what trials (Some events) = (number : ℕ) × IsLeast program what trials number × (events ≡ generated program trials number)

-- the text that answers, which has a schedule or not
abbrev pub IsReplyOf : Program → Goal → Trials → Bool → List ℕ → Type 0
IsReplyOf program what trials true text = IsFound program what trials text
IsReplyOf program what trials false text = ShowsNone program what trials × (text ≡ none_line trials.count)

-- the text of a schedule that is made short, or none
abbrev pub IsShortText : Program → Goal → List Event → Option (List ℕ) → Type 0
IsShortText program what whole None = IsUnspelled program what whole
IsShortText program what whole (Some text) = IsTextOf program what whole text

-- the text that answers, or there is none
abbrev pub Answers : Program → Goal → Trials → Option Reply → Type 0
Answers program what trials None = IsFoundUnspelled program what trials
Answers program what trials (Some reply) = IsReplyOf program what trials reply.found reply.text
