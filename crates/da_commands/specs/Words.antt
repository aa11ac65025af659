-- What the words ask for.
use Rattle.std.specs.Prelude.{◌≡◌, ℕ, ◌≤◌, List, map}
use Rattle.std.specs.String.{string_bytes}
use Rattle.da_commands.specs.declared.words.Command.{Command}
use Rattle.da_commands.specs.declared.words.Command.TheVariants.{Replay, Carry, Infer, Node, Launch, Join, Other}
use Rattle.da_commands.specs.declared.words.LaunchSetting.{LaunchSetting}
use Rattle.da_commands.specs.declared.words.NodeSetting.{NodeSetting}
use Rattle.da_commands.specs.declared.words.Task.{Task}
use Rattle.da_commands.specs.InferReplies.{IsInfer}
use Rattle.da_commands.specs.JoinReplies.{IsJoin}
use Rattle.da_commands.specs.LaunchReplies.{IsLaunch}
use Rattle.da_commands.specs.NodeReplies.{IsNode}
use Rattle.da_commands.specs.Replies.{IsAsking, IsOther, IsReplay}

abbrev pub IsBetween : ℕ → ℕ → ℕ → Type 0
IsBetween least most n = (least ≤ n) × (n ≤ most)

-- they ask for none of the commands that take a certain number of words
abbrev pub IsUnknown : List (List ℕ) → Type 0
IsUnknown words =
    ((p q : List ℕ) → IsReplay words p q → ⊥) × ((task : Task) (p : List ℕ) → IsAsking words task p → ⊥)
    × ((p : List ℕ) (setting : NodeSetting) → IsNode words p setting → ⊥)
    × ((p : List ℕ) (setting : LaunchSetting) → IsLaunch words p setting → ⊥)
    × ((p : List ℕ) → IsInfer words p → ⊥)

-- what is asked by words that ask for no join
abbrev pub IsAskedPlainly : List (List ℕ) → Command → Type 0
IsAskedPlainly words (Replay names) = IsReplay words names.program.now names.schedule.now
IsAskedPlainly words (Carry task program) = IsAsking words task program.now
IsAskedPlainly words (Infer program) = IsInfer words program.now
IsAskedPlainly words (Node setting program) = IsNode words program.now setting
IsAskedPlainly words (Launch setting program) = IsLaunch words program.now setting
IsAskedPlainly words (Join program traces) = ⊥
IsAskedPlainly words Other = IsUnknown words

abbrev pub IsAsked : List (List ℕ) → Command → Type 0
IsAsked words (Replay names) = IsReplay words names.program.now names.schedule.now
IsAsked words (Carry task program) = IsAsking words task program.now
IsAsked words (Infer program) = IsInfer words program.now
IsAsked words (Node setting program) = IsNode words program.now setting
IsAsked words (Launch setting program) = IsLaunch words program.now setting
IsAsked words (Join program traces) = IsJoin words program.now (map string_bytes traces.now)
IsAsked words Other = IsOther words
