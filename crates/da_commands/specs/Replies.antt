-- What the program answers to the text of a program and that of a schedule.
use Rattle.std.specs.Prelude.{◌≡◌, ◌<◌, ◌≤◌, ◌^◌, ℕ, ◌⊎◌, List, [], ◌∷◌, length, codes, decimal, Option, Some, None}
use Rattle.da_values.specs.Sets.{Has}
use Rattle.da_lang.specs.declared.event.Event.{Event}
use Rattle.da_lang.specs.declared.program.Program.{Program}
use Rattle.da_system.specs.SourceRun.{src_run}
use Rattle.da_system.specs.StressRun.{stress_text}
use Rattle.da_front.specs.declared.refusal.RefusedKind.{RefusedKind}
use Rattle.da_commands.specs.declared.status.Status.{Status}
use Rattle.da_commands.specs.declared.status.Status.TheVariants.{Done, Refused, Forbidden, BadSchedule, ReadFault, WriteFault, Memory, LinkFault, ChildFault, Words}
use Rattle.da_commands.specs.declared.words.Task.{Task}
use Rattle.da_commands.specs.declared.words.Task.TheVariants.{Check, Plan, Stress}
use Rattle.da_commands.specs.declared.words.LaunchSetting.{LaunchSetting}
use Rattle.da_commands.specs.declared.words.NodeSetting.{NodeSetting}
use Rattle.da_commands.specs.InferReplies.{IsInfer}
use Rattle.da_commands.specs.JoinReplies.{IsJoin}
use Rattle.da_commands.specs.LaunchReplies.{IsLaunch}
use Rattle.da_commands.specs.NodeReplies.{IsNode}
use Rattle.da_commands.specs.Lines.{accepted_text, badline_text, refused_text}
use Rattle.da_outside.specs.Outside.{Appends, Rose}
use Rattle.da_front.specs.Verdict.{Accepts, IsRefused, Refuses}
use Rattle.da_commands.specs.PlanJson.{plan_text}
use Rattle.sched_text.specs.ActionText.{action_text}
use Rattle.sched_text.specs.ScheduleText.{IsBadSchedule, SpellsSchedule}

-- the status of a run that stops at the event of this number, or at none
abbrev pub ended_by : Option ℕ → Status
ended_by None = Done
ended_by (Some i) = Forbidden i

abbrev pub run_status : Program → List Event → Status
run_status program events = ended_by (src_run program events).stop

abbrev pub run_text : Program → List Event → List ℕ
run_text program events = action_text (src_run program events).actions

-- the status and the bytes with which an accepted program answers the text of a schedule
pub data RunReply (program : Program) (schedule_text : List ℕ) : Status → List ℕ → Type 0 where
  bad_schedule : (line : ℕ) → IsBadSchedule schedule_text line → RunReply program schedule_text (BadSchedule line) (badline_text line)
  ran : (events : List Event) → SpellsSchedule schedule_text events → RunReply program schedule_text (run_status program events) (run_text program events)

-- the status and the bytes with which `replay` answers a program's text and a schedule's
pub data ReplayReply (program_text schedule_text : List ℕ) : Status → List ℕ → Type 0 where
  refused : (kind : RefusedKind) (line : ℕ) → Refuses program_text kind line → ReplayReply program_text schedule_text (Refused kind line) (refused_text kind line)
  answered : (program : Program) → Accepts program_text program → (status : Status) (bytes : List ℕ) → RunReply program schedule_text status bytes
      → ReplayReply program_text schedule_text status bytes

-- the program was run to the end of the schedule or to its first forbidden event, and all of that was written; or memory was refused
abbrev pub RunsWhole : Program → List Event → Status → Option (List ℕ) → Option (List ℕ) → Type 0
RunsWhole program events status before after =
    (status ≡ Memory) ⊎ ((status ≡ run_status program events) × Appends before after (run_text program events))

-- what is answered to a task on an accepted program
abbrev pub task_text : Task → Program → List ℕ
task_text Check program = accepted_text (length program.classes) (length program.procs)
task_text Plan program = plan_text program
task_text (Stress start most) program = stress_text program start most

-- the status and the bytes with which a task on a program's text is answered
pub data TaskReply (task : Task) (text : List ℕ) : Status → List ℕ → Type 0 where
  declined : (kind : RefusedKind) (line : ℕ) → Refuses text kind line → TaskReply task text (Refused kind line) (refused_text kind line)
  executed : (program : Program) → Accepts text program → TaskReply task text Done (task_text task program)

-- the task was carried out on the program, and what is answered was written; or memory was refused
abbrev pub IsExecuted : Task → Program → Status → Option (List ℕ) → Option (List ℕ) → Type 0
IsExecuted task program status before after =
    (status ≡ Memory) ⊎ ((status ≡ Done) × Appends before after (task_text task program))

-- a status that tells of an answer, and not of a fault or of want of memory
abbrev pub IsAnswer : Status → Type 0
IsAnswer ReadFault = ⊥
IsAnswer WriteFault = ⊥
IsAnswer Memory = ⊥
IsAnswer LinkFault = ⊥
IsAnswer ChildFault = ⊥
IsAnswer _ = Unit {0}

-- a status with which a call may end that asks neither for a node nor for a launch
abbrev pub IsEnd : Status → Type 0
IsEnd Words = ⊥
IsEnd LinkFault = ⊥
IsEnd ChildFault = ⊥
IsEnd _ = Unit {0}

-- the words ask to replay these names
abbrev pub IsReplay : List (List ℕ) → List ℕ → List ℕ → Type 0
IsReplay words program schedule = words ≡ codes "replay" ∷ program ∷ schedule ∷ []

-- the words of a task on the program of a name
abbrev pub words_of : Task → List ℕ → List (List ℕ)
words_of Check program = codes "check" ∷ program ∷ []
words_of Plan program = codes "plan" ∷ program ∷ []
words_of (Stress start most) program = codes "stress" ∷ program ∷ decimal start ∷ decimal most ∷ []

-- the numbers of a task are within their ranges
abbrev pub TaskInRange : Task → Type 0
TaskInRange (Stress start most) = (start < 2 ^ 48) × (1 ≤ most) × (most ≤ 1000000)
TaskInRange _ = Unit {0}

-- the words ask for this task on this name
abbrev pub IsAsking : List (List ℕ) → Task → List ℕ → Type 0
IsAsking words task program = (words ≡ words_of task program) × TaskInRange task

-- the words ask for nothing that is known
abbrev pub IsOther : List (List ℕ) → Type 0
IsOther words =
    ((p q : List ℕ) → IsReplay words p q → ⊥) × ((task : Task) (p : List ℕ) → IsAsking words task p → ⊥)
    × ((p : List ℕ) (setting : NodeSetting) → IsNode words p setting → ⊥)
    × ((p : List ℕ) (setting : LaunchSetting) → IsLaunch words p setting → ⊥)
    × ((p : List ℕ) (traces : List (List ℕ)) → IsJoin words p traces → ⊥)
    × ((p : List ℕ) → IsInfer words p → ⊥)

-- a schedule is read unless the told program is refused
abbrev pub MayRead : Option (List ℕ) → Type 0
MayRead None = Unit {0}
MayRead (Some text) = IsRefused text → ⊥

-- a read failed: the count rose for the program's name, or, unless the told program is refused, for the schedule's
abbrev pub ReadCause : Option (List ℕ) → (List ℕ → ℕ) → (List ℕ → ℕ) → List ℕ → List ℕ → Type 0
ReadCause told before now program schedule =
    Rose (before program) (now program) ⊎ (Rose (before schedule) (now schedule) × MayRead told)

-- so many traces are read unless the told program is refused or has another number of processes
abbrev pub MayReadTraces : Option (List ℕ) → ℕ → Type 0
MayReadTraces None count = Unit {0}
MayReadTraces (Some text) count = (IsRefused text → ⊥) × ((program : Program) → Accepts text program → count ≡ length program.procs)

-- a read failed: the count rose for the program's name, or, where traces are read, for that of one of them
abbrev pub TraceReadCause : Option (List ℕ) → (List ℕ → ℕ) → (List ℕ → ℕ) → List ℕ → List (List ℕ) → Type 0
TraceReadCause told before now program traces =
    Rose (before program) (now program)
    ⊎ ((trace : List ℕ) × Has traces trace × Rose (before trace) (now trace) × MayReadTraces told (length traces))

-- a read failed, and the count rose for a name in the words that may be read
abbrev pub HasReadCause : List (List ℕ) → (List ℕ → Option (List ℕ)) → (List ℕ → ℕ) → (List ℕ → ℕ) → Type 0
HasReadCause words told before now =
    ((p : List ℕ) × (q : List ℕ) × IsReplay words p q × ReadCause (told p) before now p q)
    ⊎ ((task : Task) × (p : List ℕ) × IsAsking words task p × Rose (before p) (now p))
    ⊎ ((p : List ℕ) × (setting : NodeSetting) × IsNode words p setting × Rose (before p) (now p))
    ⊎ ((p : List ℕ) × (setting : LaunchSetting) × IsLaunch words p setting × Rose (before p) (now p))
    ⊎ ((p : List ℕ) × (traces : List (List ℕ)) × IsJoin words p traces × TraceReadCause (told p) before now p traces)
    ⊎ ((p : List ℕ) × IsInfer words p × Rose (before p) (now p))
