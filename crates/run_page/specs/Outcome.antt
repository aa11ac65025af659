-- How the page of a run is written.
use Rattle.std.specs.Prelude.{◌≡◌, ◌⊎◌, ℕ, List, Option}
use Rattle.da_lang.specs.declared.event.Event.{Event}
use Rattle.da_lang.specs.declared.program.Program.{Program}
use Rattle.da_lang.specs.declared.tree.Tree.{Tree}
use Rattle.da_outside.specs.Outside.{Appends, AppendsPrefix}
use Rattle.da_system.specs.SystemStep.{start}
use Rattle.replay_run.specs.declared.outcome.Outcome.{Outcome}
use Rattle.replay_run.specs.Replay.{outcome_of, run_on}
use Rattle.run_page.specs.RunRows.{IsRunPage}

-- what was asked: the program, its tree and text, and the schedule with its events
pub record Asked : Type 0 where
  pub program : Program
  pub tree : Tree
  pub text : List ℕ
  pub schedule : List ℕ
  pub events : List Event

abbrev pub IsPage : Asked → List ℕ → Type 0
IsPage asked page = IsRunPage asked.program asked.tree asked.text asked.schedule asked.events page

-- the run ended so, and its page was written whole
abbrev pub HasShown : Asked → Outcome → Option (List ℕ) → Option (List ℕ) → Type 0
HasShown asked how before after =
    (how ≡ outcome_of (run_on asked.program (start asked.program) asked.events).stop) × (page : List ℕ) × IsPage asked page × Appends before after page

-- nothing was written, or a prefix of its page
abbrev pub HasBegun : Asked → Option (List ℕ) → Option (List ℕ) → Type 0
HasBegun asked before after = (after ≡ before) ⊎ ((page : List ℕ) × IsPage asked page × AppendsPrefix before after page)
