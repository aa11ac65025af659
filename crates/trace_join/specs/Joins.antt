-- Schedules whose run has given traces, and how far traces can be followed.
use Rattle.std.specs.Prelude.{◌≡◌, ℕ, ◌+◌, ◌≤◌, nat_lt, if◌then◌else◌, List, [], ◌∷◌, ◌++◌, length, Some, None}
use Rattle.std.specs.List.{AllByRecursion}
use Rattle.da_lang.specs.declared.event.Action.{Action}
use Rattle.da_lang.specs.declared.event.Event.{Event}
use Rattle.da_lang.specs.declared.event.Event.TheVariants.{Show, Stat}
use Rattle.da_lang.specs.declared.program.Program.{Program}
use Rattle.da_lang.specs.World.{at_number}
use Rattle.da_system.specs.SourceRun.{src_run}
use Rattle.sched_text.specs.TraceText.{AllOf}
use Rattle.trace_join.specs.Traces.{part}

-- an event that asks for no answers
abbrev pub IsPlain : Event → Type 0
IsPlain (Show p) = ⊥
IsPlain (Stat p) = ⊥
IsPlain _ = Unit {0}

-- plain events that are all allowed
pub record RunsWhole (program : Program) (events : List Event) : Type 0 where
  pub plain : AllByRecursion IsPlain events
  pub whole : (src_run program events).stop ≡ None

-- what process p tells in the run of the events
abbrev pub told_by : Program → List Event → ℕ → List Action
told_by program events p = part p (src_run program events).actions

-- the first list begins with the second
abbrev pub BeginsWith : {A : Type 0} → List A → List A → Type 0
BeginsWith {A} whole front = (rest : List A) × (whole ≡ front ++ rest)

-- each process tells its trace
pub record Joined (program : Program) (traces : List (List Action)) (events : List Event) : Type 0 where
  pub runs : RunsWhole program events
  pub tells : (p : ℕ) (trace : List Action) → at_number traces p ≡ Some trace → told_by program events p ≡ trace

-- each process tells a beginning of its trace
pub record PartlyJoined (program : Program) (traces : List (List Action)) (events : List Event) : Type 0 where
  pub runs : RunsWhole program events
  pub tells : (p : ℕ) (trace : List Action) → at_number traces p ≡ Some trace → BeginsWith trace (told_by program events p)

-- the most that process p tells of its trace
pub record IsReach (program : Program) (traces : List (List Action)) (p reach : ℕ) : Type 0 where
  pub reached : (events : List Event) × PartlyJoined program traces events × (length (told_by program events p) ≡ reach)
  pub greatest : (events : List Event) → PartlyJoined program traces events → length (told_by program events p) ≤ reach

-- of processes that are numbered from p on, those that do not reach the end of their traces, each with the first line after
abbrev pub blocks_from : ℕ → List ℕ → List (List Action) → List (ℕ × ℕ)
blocks_from p (reach ∷ reaches) (trace ∷ traces) =
    if nat_lt reach (length trace) then (p, reach + 1) ∷ blocks_from (p + 1) reaches traces else blocks_from (p + 1) reaches traces
blocks_from p _ _ = []

-- these are the processes that do not reach the end
abbrev pub AreBlocks : Program → List (List Action) → List (ℕ × ℕ) → Type 0
AreBlocks program traces blocks =
    (reaches : List ℕ)
    × (length reaches ≡ length traces)
    × ((p reach : ℕ) → at_number reaches p ≡ Some reach → IsReach program traces p reach)
    × (blocks ≡ blocks_from 1 reaches traces)

-- no events join the traces
abbrev pub NoneJoins : Program → List (List Action) → Type 0
NoneJoins program traces = (events : List Event) → Joined program traces events → ⊥

-- one trace for each process, of its own actions, and none too long
pub record AreTraces (program : Program) (traces : List (List Action)) : Type 0 where
  pub count : length traces ≡ length program.procs
  pub own : (p : ℕ) (trace : List Action) → at_number traces p ≡ Some trace → AllOf p trace
  pub few : (p : ℕ) (trace : List Action) → at_number traces p ≡ Some trace → length trace ≤ 1048576
