-- What the parts of the command `join` find.
use Rattle.std.specs.Prelude.{◌≡◌, ℕ, ◌≤◌, List, [], ◌∷◌, ◌++◌, length, Option, Result, Ok, Err}
use Rattle.std.specs.List.{AllByRecursion, AllZip}
use Rattle.da_lang.specs.declared.event.Action.{Action}
use Rattle.da_outside.specs.Outside.{IsWhole}
use Rattle.sched_text.specs.TraceText.{IsBadTrace, SpellsTrace, trace_limit}
use Rattle.trace_join.specs.declared.fault.Block.{Block}
use Rattle.da_commands.specs.declared.joining.TracesFault.{TracesFault}
use Rattle.da_commands.specs.declared.joining.TracesFault.TheVariants.{BadLine, Memory}
use Rattle.da_commands.specs.JoinReplies.{IsEarliestBad, SpellTraces}

-- these texts are read where those are told: each is whole, or goes one byte past the limit
abbrev pub AreWhole : ℕ → List (Option (List ℕ)) → List (List ℕ) → Type 0
AreWhole limit = AllZip (λ told text. IsWhole told limit text)

-- the trace that a text of process p spells is added
pub record AddsTrace (p : ℕ) (text : List ℕ) (old new : List (List Action)) : Type 0 where
  pub trace : List Action
  pub spelled : SpellsTrace p text trace
  pub few : length trace ≤ trace_limit
  pub is : new ≡ old ++ trace ∷ []

-- why none is added: the text is no trace of process p, or memory was refused
abbrev pub IsNoTrace : ℕ → List ℕ → TracesFault → Type 0
IsNoTrace p text (BadLine process line) = (process ≡ p) × IsBadTrace p text line
IsNoTrace p text Memory = Unit {0}

-- what a reader of traces answers
abbrev pub AreRead : List (List ℕ) → Result (List (List Action)) TracesFault → Type 0
AreRead texts (Ok traces) = SpellTraces 1 texts traces × AllByRecursion (λ trace. length trace ≤ trace_limit) traces
AreRead texts (Err (BadLine process line)) = IsEarliestBad 1 texts process line
AreRead texts (Err Memory) = Unit {0}

-- a process that is blocked, and the line of its trace at which it is
abbrev pub blocked_at : Block → ℕ × ℕ
blocked_at block = (block.process, block.line)
