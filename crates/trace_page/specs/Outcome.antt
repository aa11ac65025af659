-- How a drawing ends, and what it writes.
use Rattle.std.specs.Prelude.{◌≡◌, ◌⊎◌, ℕ, List, Option, Result, Ok, Err, ⊤}
use Rattle.da_lang.specs.declared.event.Action.{Action}
use Rattle.da_outside.specs.Outside.{Appends, AppendsPrefix}
use Rattle.trace_page.specs.declared.outcome.DrawOutcome.{DrawOutcome}
use Rattle.trace_page.specs.declared.outcome.DrawOutcome.TheVariants.{Done, BadLine, WriteFault, Memory}
use Rattle.trace_page.specs.declared.trace.TraceFault.{TraceFault}
use Rattle.trace_page.specs.declared.trace.TraceFault.TheVariants as faults
use Rattle.trace_page.specs.PageText.{page_of}
use Rattle.trace_page.specs.TraceText.{IsBadTrace, IsTrace, SpellsTrace}

-- what each end says of the text
abbrev pub SaysOf : List ℕ → DrawOutcome → Type 0
SaysOf text Done = IsTrace text
SaysOf text (BadLine number) = IsBadTrace text number
SaysOf text WriteFault = IsTrace text
SaysOf text Memory = ⊤

-- the page of the actions of the text was written, or a prefix of it
abbrev pub HasWritten : List ℕ → Option (List ℕ) → Option (List ℕ) → Type 0
HasWritten text before after = (actions : List Action) × SpellsTrace text actions × Appends before after (page_of actions)

abbrev pub HasBegun : List ℕ → Option (List ℕ) → Option (List ℕ) → Type 0
HasBegun text before after = (actions : List Action) × SpellsTrace text actions × AppendsPrefix before after (page_of actions)

-- what a sink has gained at each end: the page, nothing, or a prefix of the page; where memory was refused, nothing or such a
-- prefix. Of a text that is no trace it gains nothing.
abbrev pub HasDrawn : List ℕ → DrawOutcome → Option (List ℕ) → Option (List ℕ) → Type 0
HasDrawn text Done before after = HasWritten text before after
HasDrawn text (BadLine number) before after = after ≡ before
HasDrawn text WriteFault before after = HasBegun text before after
HasDrawn text Memory before after = (after ≡ before) ⊎ HasBegun text before after

-- the page of a text, or why there is none
abbrev pub IsPageOf : List ℕ → Result (List ℕ) TraceFault → Type 0
IsPageOf text (Ok page) = (actions : List Action) × SpellsTrace text actions × (page ≡ page_of actions)
IsPageOf text (Err (faults.BadLine number)) = IsBadTrace text number
IsPageOf text (Err faults.Memory) = ⊤
