-- The run of a generated schedule in code, what is written of it, and what it leaves.
use Rattle.std.specs.Prelude.{◌≡◌, ℕ, ◌+◌, ◌^◌, ◌<◌, Bool, if◌then◌else◌, List, ◌++◌, codes, count_by, length, Option, Some, None}
use Rattle.da_lang.specs.declared.event.Action.{Action}
use Rattle.da_lang.specs.declared.event.Event.{Event}
use Rattle.da_lang.specs.declared.program.Program.{Program}
use Rattle.da_outside.specs.Outside.{Appends}
use Rattle.da_system.specs.declared.system.System.{System}
use Rattle.da_system.specs.Choices.{choices}
use Rattle.da_system.specs.State.{Stands}
use Rattle.da_system.specs.StressRun.{is_end, is_fault, is_got, is_out, is_sent, is_took, next_number, number_line, pick, stress_from, stress_text_from}
use Rattle.da_system.specs.SystemStep.{AfterEvent, SystemState, sys_step}
use Rattle.replay_run.specs.declared.counts.Counts.{Counts}
use Rattle.replay_run.specs.declared.generated.Summary.{Summary}
use Rattle.replay_run.specs.Replay.{StandsAfter, run_on}

-- the events that are picked from this state: at most n of them, where the last number was x
abbrev pub picked_on : Program → SystemState → ℕ → ℕ → List Event
picked_on program s x n = (stress_from program n x s).events

-- they were carried out from this state: the system stands for the state that they leave, and a sink gained the eight lines
pub record HasPicked (program : Program) (s : SystemState) (x n : ℕ) (system : System) (before after : Option (List ℕ)) : Type 0 where
  pub stands : StandsAfter program s (picked_on program s x n) system
  pub written : Appends before after (stress_text_from program s x n)

-- WHAT IS COUNTED

-- they are how many of these actions there are of each kind
pub record AreCounts (actions : List Action) (counts : Counts) : Type 0 where
  pub took : counts.took ≡ count_by is_took actions
  pub sent : counts.sent ≡ count_by is_sent actions
  pub got : counts.got ≡ count_by is_got actions
  pub out : counts.out ≡ count_by is_out actions
  pub end : counts.end ≡ count_by is_end actions
  pub fault : counts.fault ≡ count_by is_fault actions

abbrev pub one_if : Bool → ℕ
one_if b = if b then 1 else 0

-- one action more was counted
pub record CountsOne (a : Action) (old new : Counts) : Type 0 where
  pub took : new.took ≡ old.took + one_if (is_took a)
  pub sent : new.sent ≡ old.sent + one_if (is_sent a)
  pub got : new.got ≡ old.got + one_if (is_got a)
  pub out : new.out ≡ old.out + one_if (is_out a)
  pub end : new.end ≡ old.end + one_if (is_end a)
  pub fault : new.fault ≡ old.fault + one_if (is_fault a)

-- so many more actions can be counted
pub record HasRoom (counts : Counts) (more : ℕ) : Type 0 where
  pub took : counts.took + more < 2 ^ 128
  pub sent : counts.sent + more < 2 ^ 128
  pub got : counts.got + more < 2 ^ 128
  pub out : counts.out + more < 2 ^ 128
  pub end : counts.end + more < 2 ^ 128
  pub fault : counts.fault + more < 2 ^ 128

-- room for so many actions was used
abbrev pub UsesRoom : ℕ → Counts → Counts → Type 0
UsesRoom used old new = (more : ℕ) → HasRoom old (more + used) → HasRoom new more

-- whatever actions were counted before, these were counted besides
abbrev pub CountsMore : Counts → List Action → Counts → Type 0
CountsMore old actions new = (told : List Action) → AreCounts told old → AreCounts (told ++ actions) new

-- ONE EVENT

-- the number that comes after x picked an event, which was carried out and its actions counted
pub record WasPicked (program : Program) (s : SystemState) (x number : ℕ) (old new : Counts) (system : System) : Type 0 where
  pub event : Event
  pub after : AfterEvent
  pub number_is : number ≡ next_number x
  pub picks : pick (choices program s) number ≡ Some event
  pub is : sys_step program s event ≡ Some after
  pub stands : Stands system after.state
  pub counts : CountsMore old after.actions new

-- there was no event to pick, and nothing has changed
pub record IsOver (program : Program) (s : SystemState) (x : ℕ) (old new : Counts) (system : System) : Type 0 where
  pub none : pick (choices program s) (next_number x) ≡ None
  pub stands : Stands system s
  pub same : new ≡ old

abbrev pub IsNext : Program → SystemState → ℕ → Option ℕ → Counts → Counts → System → Type 0
IsNext program s x None old new system = IsOver program s x old new system
IsNext program s x (Some number) old new system = WasPicked program s x number old new system

-- ALL EVENTS

pub record HasCome (program : Program) (s : SystemState) (x n : ℕ) (summary : Summary) (system : System) : Type 0 where
  pub events : summary.events ≡ length (picked_on program s x n)
  pub counts : AreCounts (run_on program s (picked_on program s x n)).actions summary.counts
  pub last : summary.last ≡ (stress_from program n x s).last
  pub stands : StandsAfter program s (picked_on program s x n) system

-- the eight lines of a summary
abbrev pub lines_of : Summary → List ℕ
lines_of summary =
    number_line (codes "events") summary.events
    ++ number_line (codes "took") summary.counts.took
    ++ number_line (codes "sent") summary.counts.sent
    ++ number_line (codes "got") summary.counts.got
    ++ number_line (codes "out") summary.counts.out
    ++ number_line (codes "end") summary.counts.end
    ++ number_line (codes "fault") summary.counts.fault
    ++ number_line (codes "state") summary.last
