-- How it is told, event by event, what a watch says of a run.
use Rattle.std.specs.Prelude.{◌≡◌, ℕ, Bool, true, false, List, [], ◌++◌, Option, Some, None}
use Rattle.std.specs.List.{filter}
use Rattle.da_lang.specs.declared.event.Action.{Action}
use Rattle.da_lang.specs.declared.event.Event.{Event}
use Rattle.da_lang.specs.declared.program.Program.{Program}
use Rattle.da_lang.specs.World.{World}
use Rattle.da_system.specs.declared.system.System.{System}
use Rattle.da_system.specs.SourceRun.{src_run, src_run_from}
use Rattle.da_system.specs.State.{HasStepped, Stands}
use Rattle.da_system.specs.SystemStep.{AfterEvent, SystemState, sys_step}
use Rattle.replay_run.specs.declared.outcome.Outcome.{Outcome}
use Rattle.replay_run.specs.Replay.{outcome_of}
use Rattle.sched_text.specs.ActionText.{action_text}
use Rattle.run_watch.specs.declared.watcher.Watcher.{Watcher}
use Rattle.run_watch.specs.Beside.{HasCome}
use Rattle.run_watch.specs.Telling.{said, told, told_from}
use Rattle.run_watch.specs.Watching.{handed, hears_all, is_said}

-- the lines of what says something among these actions
abbrev pub said_text : List Action → List ℕ
said_text actions = action_text (filter is_said actions)

-- an event was carried out, with these actions; or it is not allowed
abbrev pub IsStep : Program → SystemState → Event → Option (List Action) → System → Type 0
IsStep program s e None system = sys_step program s e ≡ None
IsStep program s e (Some actions) system = HasStepped (sys_step program s e) system [] actions

-- an event was carried out, the watch has heard of it, and both were told
pub record WasTold (program watch : Program) (s : SystemState) (w : World) (e : Event) (system : System) (watcher : Watcher) (old new : List ℕ) : Type 0 where
  pub after : AfterEvent
  pub is : sys_step program s e ≡ Some after
  pub stands : Stands system after.state
  pub come : HasCome watch (hears_all watch w (handed watch after.actions)).world watcher
  pub text : new ≡ old ++ action_text (after.actions ++ said (hears_all watch w (handed watch after.actions)))

-- it is not allowed, and nothing was told
pub record WasRefused (program : Program) (s : SystemState) (e : Event) (old new : List ℕ) : Type 0 where
  pub is : sys_step program s e ≡ None
  pub same : new ≡ old

abbrev pub IsEventTold : Program → Program → SystemState → World → Event → Bool → System → Watcher → List ℕ → List ℕ → Type 0
IsEventTold program watch s w e true system watcher old new = WasTold program watch s w e system watcher old new
IsEventTold program watch s w e false system watcher old new = WasRefused program s e old new

-- the events were told from here on, and the run stops so
pub record AreTold (program watch : Program) (s : SystemState) (w : World) (events : List Event) (stop : Option ℕ) (old new : List ℕ) : Type 0 where
  pub stops : stop ≡ (src_run_from program 1 s events).stop
  pub text : new ≡ old ++ action_text (told_from program watch 1 s w events)

-- the whole text, and how the run ends
pub record IsTold (program watch : Program) (events : List Event) (outcome : Outcome) (lines : List ℕ) : Type 0 where
  pub outcome_is : outcome ≡ outcome_of (src_run program events).stop
  pub text : lines ≡ action_text (told program watch events)
