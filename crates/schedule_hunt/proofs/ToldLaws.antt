-- The text of events and a remark as a schedule.
use Rattle.std.proofs.Common.{◌≡◌, ◌≢◌, refl, sym, ◌∙◌, ap, subst, ℕ, ◌≤◌, ◌==◌, not, Bool, true, false, cond, List, [], ◌∷◌, ◌++◌, length, append_assoc}
use Rattle.std.specs.Prelude.{Result, Ok, Err, Option, Some, None, IfOk}
use Rattle.std.specs.List.{All, filter, flat_map}
use Rattle.std.specs.Str.Lines.{lines}
use Rattle.std.proofs.lemmas.Bool.{false≢true}
use Rattle.std.proofs.lemmas.List.Elements.{All-cons, All-head, All-nil, All-tail}
use Rattle.da_lang.specs.declared.event.Event.{Event}
use Rattle.da_lang.specs.declared.program.Program.{Program}
use Rattle.sched_text.specs.EventText.{HasNames, event_line}
use Rattle.sched_text.specs.ScheduleText.{SpellsLines, SpellsSchedule, schedule_limit}
use Rattle.schedule_walk.proofs.SpelledLaws.{event_then, remark_spells}
use Rattle.schedule_hunt.specs.declared.what.Goal.{Goal}
use Rattle.schedule_hunt.specs.Hunt.{IsPart, IsShort, IsTold, found_text, remark_line}
use Rattle.schedule_hunt.specs.Seeking.{IsShortText}

abbrev stays : ℕ → Bool
stays byte = not (byte == 10)

kept_byte : (b : ℕ) → stays b ≡ true → b ≢ 10
kept_byte b stays_is = λ same. false≢true (ap (λ x. stays x) (sym same) ∙ stays_is)

-- what a remark keeps ends no line
kept_plain : (words : List ℕ) → All (λ b. b ≢ 10) (filter (λ byte. not (byte == 10)) words)
kept_plain [] = All-nil (λ b. b ≢ 10)
kept_plain (b ∷ words) = of (stays b) refl (kept_plain words)
  where
    of : (kept : Bool) → stays b ≡ kept → All (λ x. x ≢ 10) (filter (λ byte. not (byte == 10)) words) → All (λ x. x ≢ 10) (cond kept (b ∷ filter (λ byte. not (byte == 10)) words) (filter (λ byte. not (byte == 10)) words))
    of true is rest = All-cons (λ x. x ≢ 10) b (filter (λ byte. not (byte == 10)) words) (kept_byte b is) rest
    of false is rest = rest

events_then : (events : List Event) (rest : List ℕ) → All HasNames events → SpellsLines (lines rest) [] → SpellsLines (lines (flat_map event_line events ++ rest)) events
events_then [] rest names after = after
events_then (e ∷ events) rest names after =
    subst (λ t. SpellsLines (lines t) (e ∷ events)) (sym (append_assoc (event_line e) (flat_map event_line events) rest))
    (event_then e (flat_map event_line events ++ rest) events (All-head HasNames e events names) (events_then events rest (All-tail HasNames e events names) after))

-- events that can be named, and a remark, are a schedule of these events, if the text is not too long
pub found_spells : (events : List Event) (words text : List ℕ) → text ≡ found_text events words → All HasNames events → length text ≤ schedule_limit → SpellsSchedule text events
found_spells events words text is names few = record {
  size = few;
  spelled = subst (λ t. SpellsLines (lines t) events) (sym is) (events_then events (remark_line words) names (remark_spells (filter (λ byte. not (byte == 10)) words) (kept_plain words)));
}

-- THE TEXT OF A SCHEDULE THAT IS MADE SHORT

pub short_told : {E : Type 0} (program : Program) (what : Goal) (whole events shown : List Event) (r : Result (Option (List ℕ)) E) → IsPart events whole → IsShort program what events → shown ≡ events
    → IfOk r (IsTold shown) → IfOk r (IsShortText program what whole)
short_told program what whole events shown (Ok (Some text)) part short same (words, is, spells) = record {
  events = events;
  part = part;
  short = short;
  words = words;
  text_is = subst (λ es. text ≡ found_text es words) same is;
  spells = subst (SpellsSchedule text) same spells;
}
short_told program what whole events shown (Ok None) part short same never = record {
  events = events;
  part = part;
  short = short;
  never = subst (λ es. SpellsSchedule (found_text es []) es → ⊥) same never;
}
short_told program what whole events shown (Err fault) part short same told = told
