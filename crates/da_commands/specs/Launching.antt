-- What a launch does and answers, by what its spawner answers.
use Rattle.std.specs.Prelude.{◌≡◌, ◌<◌, ◌≤◌, ℕ, ◌+◌, ◌-◌, ◌==◌, ◌⊎◌, if◌then◌else◌, List, [], ◌∷◌, ◌++◌, length, take, map, codes, decimal, Option, Some, None}
use Rattle.da_outside.specs.declared.spawner.Ended.{Ended}
use Rattle.da_outside.specs.declared.spawner.SpawnEntry.{SpawnEntry}
use Rattle.da_outside.specs.declared.spawner.SpawnEntry.TheVariants.{Start, Finish}
use Rattle.da_outside.specs.Outside.{Appends, AppendsPrefix, Rose}
use Rattle.da_outside.specs.Spawner.{Tells}
use Rattle.da_commands.specs.declared.status.Status.{Status}
use Rattle.da_commands.specs.declared.status.Status.TheVariants.{ChildFault, ChildStatus, Done, Memory}
use Rattle.da_commands.specs.declared.words.LaunchSetting.{LaunchSetting}

-- the words with which the child for process k is started: those of its node
abbrev pub child_words : List ℕ → LaunchSetting → ℕ → List (List ℕ)
child_words program setting k =
    codes "node" ∷ program ∷ decimal setting.port ∷ decimal k ∷ decimal setting.idle ∷ decimal setting.turns ∷ []

-- CALLS OF THE SPAWNER, with its answers

-- children were started for the processes k, k + 1, .., and have these numbers
abbrev pub starts : (ℕ → List (List ℕ)) → ℕ → List ℕ → List SpawnEntry
starts words k [] = []
starts words k (child ∷ children) = Start (words k) (Some child) ∷ starts words (k + 1) children

-- children were finished one by one, with these ends; `None` is one that failed
abbrev pub finishes : List ℕ → List (Option Ended) → List SpawnEntry
finishes [] ends = []
finishes (child ∷ children) [] = []
finishes (child ∷ children) (end ∷ ends) = Finish child end ∷ finishes children ends

-- THE TEXT AND THE STATUS

-- what is written of the child for process k
abbrev pub child_text : ℕ → Ended → List ℕ
child_text k end = codes "node " ++ decimal k ++ codes "\n" ++ end.output ++ codes "status " ++ decimal k ++ codes " " ++ decimal end.status ++ codes "\n"

-- what is written of the children for the processes k, k + 1, ..
abbrev pub children_text : ℕ → List Ended → List ℕ
children_text k [] = []
children_text k (end ∷ ends) = child_text k end ++ children_text (k + 1) ends

-- the status: that of the first of them which ended with another than 0
abbrev pub children_status : ℕ → List Ended → Status
children_status k [] = Done
children_status k (end ∷ ends) = if end.status == 0 then children_status (k + 1) ends else ChildStatus k end.status

-- THE REPLY

-- What comes where these children are finished one by one. Each is finished in any case. After one at which that failed
-- nothing is written.
pub data FinishReply (children : List ℕ) : List SpawnEntry → Status → List ℕ → Type 0 where
  ended : (ends : List Ended) → length ends ≡ length children
      → FinishReply children (finishes children (map Some ends)) (children_status 1 ends) (children_text 1 ends)
  unfinished : (ends : List Ended) (others : List (Option Ended)) → length ends + 1 + length others ≡ length children
      → FinishReply children (finishes children (map Some ends ++ None ∷ others)) ChildFault (children_text 1 ends)

-- The calls, the status and the bytes of a launch of so many processes, whose children are started with these words. After a
-- start that failed those that were started are finished, and nothing is written.
pub data LaunchReply (words : ℕ → List (List ℕ)) (count : ℕ) : List SpawnEntry → Status → List ℕ → Type 0 where
  started : (children : List ℕ) (calls : List SpawnEntry) (status : Status) (bytes : List ℕ) → length children ≡ count
      → FinishReply children calls status bytes → LaunchReply words count (starts words 1 children ++ calls) status bytes
  unstarted : (children : List ℕ) (ends : List (Option Ended)) → length children < count → length ends ≡ length children
      → LaunchReply words count (starts words 1 children ++ Start (words (length children + 1)) None ∷ finishes children ends) ChildFault []

-- A LAUNCH THAT IS CUT SHORT

-- the ends of children that these calls told, up to the first call that failed
abbrev pub ends_in : List SpawnEntry → List Ended
ends_in [] = []
ends_in (Start words (Some child) ∷ calls) = ends_in calls
ends_in (Start words None ∷ calls) = []
ends_in (Finish child (Some end) ∷ calls) = end ∷ ends_in calls
ends_in (Finish child None ∷ calls) = []

-- those of them after which more was told
abbrev pub passed_ends : List SpawnEntry → List Ended
passed_ends calls = ends_in (take (length calls - 1) calls)

-- A prefix of the texts of the children whose ends were told was written, in which nothing is missing of a child after whose end
-- more was told.
pub record WroteEnds (calls : List SpawnEntry) (before after : Option (List ℕ)) : Type 0 where
  pub size : ℕ
  pub written : Appends before after (take size (children_text 1 (ends_in calls)))
  pub reaches : length (children_text 1 (passed_ends calls)) ≤ size

-- The same, where the calls stop at the child whose text was being written: the last of them told its end.
pub record WroteLast (calls : List SpawnEntry) (before after : Option (List ℕ)) : Type 0 where
  pub front : WroteEnds calls before after
  pub end : Ended
  pub stops : ends_in calls ≡ passed_ends calls ++ end ∷ []

-- A launch was cut short: these were the first calls of a reply, a prefix of its bytes was written, and no more of them than
-- these calls allow.
pub record LaunchBegan (words : ℕ → List (List ℕ)) (count : ℕ) (told_before told_after : Option (List SpawnEntry)) (before after : Option (List ℕ))
    (Wrote : List SpawnEntry → Option (List ℕ) → Option (List ℕ) → Type 0) : Type 0 where
  pub calls : List SpawnEntry
  pub more : List SpawnEntry
  pub status : Status
  pub bytes : List ℕ
  pub reply : LaunchReply words count (calls ++ more) status bytes
  pub told : Tells told_before told_after calls
  pub written : AppendsPrefix before after bytes
  pub wrote : Wrote calls before after

-- A count tells of a child at which a call failed: it does not fall, that status comes only where it rose, and where it rose it is
-- that status, or memory was refused afterwards.
pub record HasChildCause (before now : ℕ) (status : Status) : Type 0 where
  pub later : before ≤ now
  pub failed : status ≡ ChildFault → Rose before now
  pub rises : before < now → (status ≡ ChildFault) ⊎ (status ≡ Memory)
