-- What the program answers to the text of a program and the texts of traces that are to be joined.
use Rattle.std.specs.Prelude.{◌≡◌, ℕ, ◌+◌, ◌⊎◌, List, [], ◌∷◌, length, codes, Option}
use Rattle.std.specs.List.{All, flat_map}
use Rattle.da_lang.specs.declared.event.Action.{Action}
use Rattle.da_lang.specs.declared.event.Event.{Event}
use Rattle.da_lang.specs.declared.program.Program.{Program}
use Rattle.sched_text.specs.EventText.{HasNames}
use Rattle.sched_text.specs.TraceText.{IsBadTrace, SpellsTrace}
use Rattle.trace_join.specs.Joins.{AreBlocks, Joined, NoneJoins}
use Rattle.da_front.specs.declared.refusal.RefusedKind.{RefusedKind}
use Rattle.da_front.specs.declared.refusal.RefusedKind.TheVariants.{Traces}
use Rattle.da_commands.specs.declared.status.Status.{Status}
use Rattle.da_commands.specs.declared.status.Status.TheVariants.{BadTrace, Done, Memory, NoJoin, Refused}
use Rattle.da_commands.specs.Lines.{badtrace_text, blocked_line, refused_text, schedule_text}
use Rattle.da_commands.specs.Told.{Gains, OfAllTold, OfTold}
use Rattle.da_front.specs.Verdict.{Accepts, Refuses}

-- the words ask to join traces of these names for the program of that name
abbrev pub IsJoin : List (List ℕ) → List ℕ → List (List ℕ) → Type 0
IsJoin words program traces = words ≡ codes "join" ∷ program ∷ traces

-- TRACES

-- the texts spell these traces, of the processes p, p + 1, ..
abbrev pub SpellTraces : ℕ → List (List ℕ) → List (List Action) → Type 0
SpellTraces p [] [] = Unit {0}
SpellTraces p (text ∷ texts) (trace ∷ traces) = SpellsTrace p text trace × SpellTraces (p + 1) texts traces
SpellTraces p _ _ = ⊥

-- of the texts of the processes p, p + 1, .. that of process q is the first that is no trace, by this line
pub data IsEarliestBad : ℕ → List (List ℕ) → ℕ → ℕ → Type 0 where
  bad : (p : ℕ) (text : List ℕ) (texts : List (List ℕ)) (line : ℕ) → IsBadTrace p text line → IsEarliestBad p (text ∷ texts) p line
  good : (p : ℕ) (text : List ℕ) (trace : List Action) (texts : List (List ℕ)) (q line : ℕ) → SpellsTrace p text trace → IsEarliestBad (p + 1) texts q line
      → IsEarliestBad p (text ∷ texts) q line

-- THE REPLY

-- the status and the bytes with which an accepted program answers as many traces as it has processes
pub data JoinedReply (program : Program) (texts : List (List ℕ)) : Status → List ℕ → Type 0 where
  bad_trace : (p line : ℕ) → IsEarliestBad 1 texts p line → JoinedReply program texts (BadTrace p line) (badtrace_text p line)
  joined : (traces : List (List Action)) (events : List Event) → SpellTraces 1 texts traces → Joined program traces events → All HasNames events
      → JoinedReply program texts Done (schedule_text events)
  blocked : (traces : List (List Action)) (blocks : List (ℕ × ℕ)) → SpellTraces 1 texts traces → NoneJoins program traces → AreBlocks program traces blocks
      → JoinedReply program texts NoJoin (flat_map blocked_line blocks)

-- and those with which `join` answers a program's text and the texts of traces
pub data JoinReply (text : List ℕ) (texts : List (List ℕ)) : Status → List ℕ → Type 0 where
  refused : (kind : RefusedKind) (line : ℕ) → Refuses text kind line → JoinReply text texts (Refused kind line) (refused_text kind line)
  miscounted : (program : Program) → Accepts text program → (length texts ≡ length program.procs → ⊥) → JoinReply text texts (Refused Traces 0) (refused_text Traces 0)
  answered : (program : Program) → Accepts text program → length texts ≡ length program.procs → (status : Status) (bytes : List ℕ)
      → JoinedReply program texts status bytes → JoinReply text texts status bytes

-- it was answered by these texts, or memory was refused
abbrev pub IsJoined : Option (List ℕ) → List (Option (List ℕ)) → Status → Option (List ℕ) → Option (List ℕ) → Type 0
IsJoined told told_traces status before after =
    (status ≡ Memory) ⊎ OfTold told (λ text. OfAllTold told_traces (λ texts. Gains (JoinReply text texts) status before after))
