-- How a replay ends, what it writes, and what it leaves.
use Rattle.std.specs.Prelude.{◌≡◌, ℕ, Bool, true, false, List, Option, Some, None}
use Rattle.da_lang.specs.declared.event.Event.{Event}
use Rattle.da_lang.specs.declared.program.Program.{Program}
use Rattle.da_outside.specs.Outside.{Appends}
use Rattle.da_system.specs.declared.system.System.{System}
use Rattle.da_system.specs.SourceRun.{SrcRun, src_run_from}
use Rattle.da_system.specs.State.{Stands}
use Rattle.da_system.specs.SystemStep.{AfterEvent, SystemState, sys_step}
use Rattle.replay_run.specs.declared.outcome.Outcome.{Outcome}
use Rattle.replay_run.specs.declared.outcome.Outcome.TheVariants.{Done, Forbidden, WriteFault, Memory}
use Rattle.sched_text.specs.ActionText.{action_text}

-- the run of the events from this state, and its text
abbrev pub run_on : Program → SystemState → List Event → SrcRun
run_on program s events = src_run_from program 1 s events

abbrev pub run_text : Program → SystemState → List Event → List ℕ
run_text program s events = action_text (run_on program s events).actions

-- the system stands for the state that the run of these events leaves
abbrev pub StandsAfter : Program → SystemState → List Event → System → Type 0
StandsAfter program s events system = Stands system (run_on program s events).state

-- the end of a run that stops at the event of this number, or at none
abbrev pub outcome_of : Option ℕ → Outcome
outcome_of None = Done
outcome_of (Some i) = Forbidden i

-- the run ended: no write failed, and memory was not refused
abbrev pub HasEnded : Outcome → Type 0
HasEnded Done = Unit {0}
HasEnded (Forbidden i) = Unit {0}
HasEnded WriteFault = ⊥
HasEnded Memory = ⊥

-- the events ran from this state: the run ended so, the system stands for the state that it leaves, and a sink gained its
-- text
pub record HasRun (program : Program) (s : SystemState) (events : List Event) (outcome : Outcome) (system : System) (before after : Option (List ℕ)) : Type 0 where
  pub outcome_is : outcome ≡ outcome_of (run_on program s events).stop
  pub stands : StandsAfter program s events system
  pub written : Appends before after (run_text program s events)

-- an event that is allowed was carried out, and a sink gained its text
pub record IsDone (program : Program) (s : SystemState) (e : Event) (system : System) (before after : Option (List ℕ)) : Type 0 where
  pub then' : AfterEvent
  pub is : sys_step program s e ≡ Some then'
  pub stands : Stands system then'.state
  pub written : Appends before after (action_text then'.actions)

-- an event that is not allowed changed nothing
pub record IsForbidden (program : Program) (s : SystemState) (e : Event) (system : System) (before after : Option (List ℕ)) : Type 0 where
  pub is : sys_step program s e ≡ None
  pub stands : Stands system s
  pub unwritten : after ≡ before

abbrev pub IsTried : Program → SystemState → Event → Bool → System → Option (List ℕ) → Option (List ℕ) → Type 0
IsTried program s e true system before after = IsDone program s e system before after
IsTried program s e false system before after = IsForbidden program s e system before after
