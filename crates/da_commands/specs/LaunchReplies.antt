-- What the program answers where it is asked to launch the processes of a program, each as a child.
use Rattle.std.specs.Prelude.{◌≡◌, ◌≤◌, ℕ, ◌⊎◌, List, [], ◌∷◌, length, codes, decimal, Option}
use Rattle.da_lang.specs.declared.program.Program.{Program}
use Rattle.da_outside.specs.declared.spawner.SpawnEntry.{SpawnEntry}
use Rattle.da_outside.specs.Outside.{Appends, AppendsPrefix}
use Rattle.da_outside.specs.Spawner.{Tells}
use Rattle.da_front.specs.declared.refusal.RefusedKind.{RefusedKind}
use Rattle.da_commands.specs.declared.status.Status.{Status}
use Rattle.da_commands.specs.declared.status.Status.TheVariants.{Memory, ReadFault, Refused, WriteFault}
use Rattle.da_commands.specs.declared.words.LaunchSetting.{LaunchSetting}
use Rattle.da_commands.specs.Launching.{LaunchBegan, LaunchReply, WroteEnds, WroteLast, child_words}
use Rattle.da_commands.specs.Lines.{refused_text}
use Rattle.da_front.specs.Verdict.{Accepts, Refuses}

-- THE WORDS

-- the numbers of a setting are within their ranges
pub record IsLaunchWithin (setting : LaunchSetting) : Type 0 where
  pub port : (1024 ≤ setting.port) × (setting.port ≤ 65000)
  pub idle : (1 ≤ setting.idle) × (setting.idle ≤ 1000000000)
  pub turns : (1 ≤ setting.turns) × (setting.turns ≤ 1000000000)

-- these words spell its numbers
pub record IsLaunchSetting (setting : LaunchSetting) (port idle turns : List ℕ) : Type 0 where
  pub port_is : port ≡ decimal setting.port
  pub idle_is : idle ≡ decimal setting.idle
  pub turns_is : turns ≡ decimal setting.turns
  pub within : IsLaunchWithin setting

-- the words ask to launch the program of this name
abbrev pub IsLaunch : List (List ℕ) → List ℕ → LaunchSetting → Type 0
IsLaunch words program setting =
    (port : List ℕ) × (idle : List ℕ) × (turns : List ℕ)
    × (words ≡ codes "launch" ∷ program ∷ port ∷ idle ∷ turns ∷ []) × IsLaunchSetting setting port idle turns

-- THE CALL

-- With this status the text was refused and no child was started; or the children of the program were started and finished, and
-- the reply was written.
pub data HasLaunched (text name : List ℕ) (setting : LaunchSetting) (status : Status) (told_before told_after : Option (List SpawnEntry)) (before after : Option (List ℕ)) : Type 0 where
  refused : (kind : RefusedKind) (line : ℕ) → Refuses text kind line → status ≡ Refused kind line
      → Tells told_before told_after [] → Appends before after (refused_text kind line)
      → HasLaunched text name setting status told_before told_after before after
  ran : (program : Program) (calls : List SpawnEntry) (bytes : List ℕ) → Accepts text program
      → LaunchReply (child_words name setting) (length program.procs) calls status bytes
      → Tells told_before told_after calls → Appends before after bytes
      → HasLaunched text name setting status told_before told_after before after

-- A read or a write failed, or memory was refused. No child was started, and nothing was written, where no write failed, or a
-- prefix of a refusal; or the launch was cut short: where a write failed, at the child whose text was being written.
pub data LaunchStopped (text name : List ℕ) (setting : LaunchSetting) (status : Status) (told_before told_after : Option (List SpawnEntry)) (before after : Option (List ℕ)) : Type 0 where
  early : (status ≡ WriteFault → ⊥) → Tells told_before told_after [] → Appends before after [] → LaunchStopped text name setting status told_before told_after before after
  refusing : (kind : RefusedKind) (line : ℕ) → Refuses text kind line → Tells told_before told_after []
      → AppendsPrefix before after (refused_text kind line) → LaunchStopped text name setting status told_before told_after before after
  writing : (program : Program) → Accepts text program → status ≡ WriteFault
      → LaunchBegan (child_words name setting) (length program.procs) told_before told_after before after WroteLast
      → LaunchStopped text name setting status told_before told_after before after
  running : (program : Program) → Accepts text program → status ≡ Memory
      → LaunchBegan (child_words name setting) (length program.procs) told_before told_after before after WroteEnds
      → LaunchStopped text name setting status told_before told_after before after

-- the launch was answered, or memory was refused
abbrev pub IsLaunched : List ℕ → List ℕ → LaunchSetting → Status → Option (List SpawnEntry) → Option (List SpawnEntry) → Option (List ℕ) → Option (List ℕ) → Type 0
IsLaunched text name setting status told_before told_after before after =
    (status ≡ Memory) ⊎ HasLaunched text name setting status told_before told_after before after

-- a status that tells of a reply: no read or write failed, and memory was not refused
abbrev pub IsLaunchAnswer : Status → Type 0
IsLaunchAnswer ReadFault = ⊥
IsLaunchAnswer WriteFault = ⊥
IsLaunchAnswer Memory = ⊥
IsLaunchAnswer _ = Unit {0}

-- what a launch leaves that was asked for over a program's text
abbrev pub HasLaunchEnd : List ℕ → List ℕ → LaunchSetting → Status → Option (List SpawnEntry) → Option (List SpawnEntry) → Option (List ℕ) → Option (List ℕ) → Type 0
HasLaunchEnd text name setting ReadFault told_before told_after before after = LaunchStopped text name setting ReadFault told_before told_after before after
HasLaunchEnd text name setting WriteFault told_before told_after before after = LaunchStopped text name setting WriteFault told_before told_after before after
HasLaunchEnd text name setting Memory told_before told_after before after = LaunchStopped text name setting Memory told_before told_after before after
HasLaunchEnd text name setting status told_before told_after before after = HasLaunched text name setting status told_before told_after before after

-- the same for each text of an accepted program
abbrev pub LaunchesProgram : Program → List ℕ → LaunchSetting → Status → Option (List SpawnEntry) → Option (List SpawnEntry) → Option (List ℕ) → Option (List ℕ) → Type 0
LaunchesProgram program name setting status told_before told_after before after =
    (text : List ℕ) → Accepts text program → HasLaunchEnd text name setting status told_before told_after before after
