-- What the parts of the command `launch` leave, by their status.
use Rattle.std.specs.Prelude.{◌≡◌, ◌<◌, ◌≤◌, ℕ, ◌+◌, ◌==◌, ◌⊎◌, if◌then◌else◌, List, [], ◌∷◌, ◌++◌, length, map, Option, None, Some, Result, Ok, Err}
use Rattle.da_outside.specs.declared.spawner.Child.{Child}
use Rattle.da_outside.specs.declared.spawner.Ended.{Ended}
use Rattle.da_outside.specs.declared.spawner.SpawnEntry.{SpawnEntry}
use Rattle.da_outside.specs.declared.spawner.SpawnEntry.TheVariants.{Start, Finish}
use Rattle.da_outside.specs.Outside.{Appends, AppendsPrefix}
use Rattle.da_outside.specs.Spawner.{Tells}
use Rattle.da_commands.specs.declared.finishing.FinishFault.{FinishFault}
use Rattle.da_commands.specs.declared.finishing.FinishFault.TheVariants as fault
use Rattle.da_commands.specs.declared.starting.Started.{Started}
use Rattle.da_commands.specs.declared.starting.Started.TheVariants as children
use Rattle.da_commands.specs.declared.status.Status.{Status}
use Rattle.da_commands.specs.declared.status.Status.TheVariants.{ChildFault, ChildStatus, Done, Memory, ReadFault, WriteFault}
use Rattle.da_commands.specs.Launching.{FinishReply, LaunchBegan, LaunchReply, WroteEnds, WroteLast, child_text, finishes, starts}

-- the numbers of children
abbrev pub numbers : List Child → List ℕ
numbers = map (λ (child : Child). child.number)

-- how far children were started with these words, for so many processes
abbrev pub HasStarted : (ℕ → List (List ℕ)) → ℕ → Started → Option (List SpawnEntry) → Option (List SpawnEntry) → Type 0
HasStarted words count (children.All list) told_before told_after =
    (length list ≡ count) × Tells told_before told_after (starts words 1 (numbers list))
HasStarted words count (children.Broken list) told_before told_after =
    (length list < count) × Tells told_before told_after (starts words 1 (numbers list) ++ Start (words (length list + 1)) None ∷ [])
HasStarted words count children.Memory told_before told_after =
    (list : List ℕ) × (length list ≤ count) × Tells told_before told_after (starts words 1 list)

-- one could not be started
abbrev pub IsBroken : Started → Type 0
IsBroken (children.Broken list) = Unit {0}
IsBroken _ = ⊥

-- what comes of finishing the child for process k, by the answer
abbrev pub HasFinishedOne : ℕ → ℕ → Result ℕ FinishFault → Option (List SpawnEntry) → Option (List SpawnEntry) → Option (List ℕ) → Option (List ℕ) → Type 0
HasFinishedOne child k (Ok status) told_before told_after before after =
    (end : Ended) × (end.status ≡ status) × Tells told_before told_after (Finish child (Some end) ∷ []) × Appends before after (child_text k end)
HasFinishedOne child k (Err fault.Child) told_before told_after before after =
    Tells told_before told_after (Finish child None ∷ []) × (after ≡ before)
HasFinishedOne child k (Err fault.Write) told_before told_after before after =
    (end : Ended) × Tells told_before told_after (Finish child (Some end) ∷ []) × AppendsPrefix before after (child_text k end)
HasFinishedOne child k (Err fault.Memory) told_before told_after before after =
    ((told_after ≡ told_before) × (after ≡ before))
    ⊎ ((end : Ended) × Tells told_before told_after (Finish child (Some end) ∷ []) × AppendsPrefix before after (child_text k end))

-- what comes of finishing these children where nothing is written
abbrev pub HasFinishedRest : List ℕ → Status → Option (List SpawnEntry) → Option (List SpawnEntry) → Type 0
HasFinishedRest list ChildFault told_before told_after =
    (ends : List (Option Ended)) × (length ends ≡ length list) × Tells told_before told_after (finishes list ends)
HasFinishedRest list Memory told_before told_after =
    (ends : List (Option Ended)) × (length ends ≤ length list) × Tells told_before told_after (finishes list ends)
HasFinishedRest list status told_before told_after = ⊥

-- the status with which children end, after one that ended with this code
abbrev pub status_after : Status → ℕ → ℕ → Status
status_after Done child code = if code == 0 then Done else ChildStatus child code
status_after status child code = status

-- The finishing of these children was cut short: these were the first calls of a reply, a prefix of its bytes was written, and no
-- more of them than these calls allow.
pub record FinishBegan (list : List ℕ) (told_before told_after : Option (List SpawnEntry)) (before after : Option (List ℕ))
    (Wrote : List SpawnEntry → Option (List ℕ) → Option (List ℕ) → Type 0) : Type 0 where
  pub calls : List SpawnEntry
  pub more : List SpawnEntry
  pub status : Status
  pub bytes : List ℕ
  pub reply : FinishReply list (calls ++ more) status bytes
  pub told : Tells told_before told_after calls
  pub written : AppendsPrefix before after bytes
  pub wrote : Wrote calls before after

-- what comes of finishing these children
abbrev pub HasFinished : List ℕ → Status → Option (List SpawnEntry) → Option (List SpawnEntry) → Option (List ℕ) → Option (List ℕ) → Type 0
HasFinished list WriteFault told_before told_after before after = FinishBegan list told_before told_after before after WroteLast
HasFinished list Memory told_before told_after before after = FinishBegan list told_before told_after before after WroteEnds
HasFinished list status told_before told_after before after =
    (calls : List SpawnEntry) × (bytes : List ℕ) × FinishReply list calls status bytes × Tells told_before told_after calls × Appends before after bytes

-- what comes of starting and finishing the children for so many processes
abbrev pub HasRun : (ℕ → List (List ℕ)) → ℕ → Status → Option (List SpawnEntry) → Option (List SpawnEntry) → Option (List ℕ) → Option (List ℕ) → Type 0
HasRun words count WriteFault told_before told_after before after = LaunchBegan words count told_before told_after before after WroteLast
HasRun words count Memory told_before told_after before after = LaunchBegan words count told_before told_after before after WroteEnds
HasRun words count status told_before told_after before after =
    (calls : List SpawnEntry) × (bytes : List ℕ) × LaunchReply words count calls status bytes × Tells told_before told_after calls × Appends before after bytes

-- the statuses with which children are finished
abbrev pub IsFinishEnd : Status → Type 0
IsFinishEnd Done = Unit {0}
IsFinishEnd (ChildStatus child status) = Unit {0}
IsFinishEnd ChildFault = Unit {0}
IsFinishEnd WriteFault = Unit {0}
IsFinishEnd Memory = Unit {0}
IsFinishEnd _ = ⊥
