-- What is answered to the question which events are allowed after a schedule.
use Rattle.std.specs.Prelude.{◌≡◌, ◌≤◌, ℕ, if◌then◌else◌, nat_lt, List, [], ◌++◌, codes, map, Option, None, Some}
use Rattle.std.specs.List.{AllByRecursion, flat_map}
use Rattle.da_lang.specs.declared.event.Action.TheVariants.{Stop}
use Rattle.da_lang.specs.declared.event.Event.{Event}
use Rattle.da_lang.specs.declared.program.Program.{Program}
use Rattle.da_outside.specs.Outside.{Appends, AppendsPrefix}
use Rattle.da_system.specs.declared.system.System.{System}
use Rattle.da_system.specs.SourceRun.{src_run}
use Rattle.da_system.specs.SystemStep.{SystemState}
use Rattle.replay_run.specs.declared.outcome.Outcome.{Outcome}
use Rattle.replay_run.specs.Replay.{StandsAfter, outcome_of, run_on}
use Rattle.sched_text.specs.ActionText.{action_line}
use Rattle.sched_text.specs.EventText.{event_line}
use Rattle.sched_text.specs.ScheduleText.{SpellsSchedule}
use Rattle.schedule_walk.specs.declared.outcome.NextOutcome.{NextOutcome}
use Rattle.schedule_walk.specs.declared.outcome.NextOutcome.TheVariants.{Done, Forbidden, Unspelled, WriteFault, Memory}
use Rattle.schedule_walk.specs.Allowed.{ListsAllowed}

-- AN EVENT AND A REMARK

pub record Row : Type 0 where
  pub event : Event
  pub remark : List ℕ

-- its two lines
abbrev pub row_lines : Row → List ℕ
row_lines row = event_line row.event ++ codes "# " ++ row.remark ++ codes "\n"

-- no byte of a remark ends a line
abbrev pub IsPlain : List ℕ → Type 0
IsPlain = AllByRecursion (λ b. 32 ≤ b)

-- the text has a line for each of these events, in their order, and after each of them one line with a remark
pub record AreRemarked (events : List Event) (text : List ℕ) : Type 0 where
  pub rows : List Row
  pub events_are : map (λ (row : Row). row.event) rows ≡ events
  pub plain : AllByRecursion (λ (row : Row). IsPlain row.remark) rows
  pub text_is : text ≡ flat_map row_lines rows

-- a byte of a remark; a question mark stands for one that would end the line or rule the terminal
abbrev pub shown_byte : ℕ → ℕ
shown_byte b = if nat_lt b 32 then 63 else b

-- the text of these events with empty remarks
abbrev pub bare : Event → Row
bare e = record { event = e; remark = [] }

abbrev pub bare_text : List Event → List ℕ
bare_text = flat_map (λ e. row_lines (bare e))

-- THE ANSWER

-- how a list of events is told: a text with remarks which is a schedule of exactly these events; or nothing, where even with
-- empty remarks it would be none
abbrev pub IsListing : List Event → NextOutcome → List ℕ → Type 0
IsListing list Done text = AreRemarked list text × SpellsSchedule text list
IsListing list Unspelled text = (text ≡ []) × (SpellsSchedule (bare_text list) list → ⊥)
IsListing list _ text = ⊥

-- the run of the events from the opening stops at one of them, and the line says so; or it does not, and what is told lists the
-- events that are allowed after it
pub data NextReply (program : Program) (events : List Event) : NextOutcome → List ℕ → Type 0 where
  stopped : (i : ℕ) → (src_run program events).stop ≡ Some i → NextReply program events (Forbidden i) (action_line (Stop i))
  listed : (list : List Event) (how : NextOutcome) (text : List ℕ) → (src_run program events).stop ≡ None → ListsAllowed program (src_run program events).state list → IsListing list how text
      → NextReply program events how text

-- it ended with an answer: no write failed, and memory was not refused
abbrev pub HasEnded : NextOutcome → Type 0
HasEnded WriteFault = ⊥
HasEnded Memory = ⊥
HasEnded _ = Unit {0}

-- How a call ended and what a sink gained: the bytes of a reply; or, where a write failed or memory was refused, nothing, or a
-- prefix of the bytes of a reply.
pub data HasAnswered (Reply : NextOutcome → List ℕ → Type 0) (how : NextOutcome) (before after : Option (List ℕ)) : Type 0 where
  whole : HasEnded how → (bytes : List ℕ) → Reply how bytes → Appends before after bytes → HasAnswered Reply how before after
  begun : (HasEnded how → ⊥) → (said : NextOutcome) (bytes : List ℕ) → Reply said bytes → AppendsPrefix before after bytes → HasAnswered Reply how before after
  nothing : (HasEnded how → ⊥) → Appends before after [] → HasAnswered Reply how before after

-- the events were carried out from this state, up to the first that is not allowed
pub record HasCome (program : Program) (s : SystemState) (events : List Event) (how : Outcome) (system : System) : Type 0 where
  pub outcome_is : how ≡ outcome_of (run_on program s events).stop
  pub stands : StandsAfter program s events system

-- these bytes were to be written to end so: they were, or a write failed or memory was refused after a prefix of them
abbrev pub HasSaid : NextOutcome → List ℕ → NextOutcome → Option (List ℕ) → Option (List ℕ) → Type 0
HasSaid how bytes result before after = HasAnswered (λ said written. (said ≡ how) × (written ≡ bytes)) result before after
