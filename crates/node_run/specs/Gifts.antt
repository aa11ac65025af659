-- What is given for some actions, and how giving and writing are cut short.
use Rattle.std.specs.Prelude.{◌≡◌, ℕ, ◌^◌, ◌<◌, ◌≤◌, IsTrue, List, [], ◌∷◌, ◌++◌, length, Option}
use Rattle.std.specs.List.{AllByRecursion}
use Rattle.da_values.specs.Narrow.{is_narrow}
use Rattle.da_values.specs.Value.{val_of}
use Rattle.da_lang.specs.declared.event.Action.{Action}
use Rattle.da_lang.specs.declared.event.Action.TheVariants.{Sent}
use Rattle.da_outside.specs.declared.link.LinkEntry.{LinkEntry}
use Rattle.da_outside.specs.Link.{Gains}
use Rattle.da_outside.specs.Outside.{Appends, AppendsPrefix}
use Rattle.da_values.specs.declared.value.Value.{Value}
use Rattle.msg_codec.specs.Packets.{has_few_parts, packet_bytes}
use Rattle.sched_text.specs.ActionText.{action_text}
use Rattle.node_run.specs.declared.outcome.NodeOutcome.{NodeOutcome}
use Rattle.node_run.specs.declared.outcome.NodeOutcome.TheVariants.{LinkFault, WriteFault, Memory}
use Rattle.node_run.specs.NodeRun.{gifts}

-- a message may be given: it keeps the bounds that its bytes need, and its recipient is one of so many processes
pub record IsGift (count sender recipient time : ℕ) (message : Value) : Type 0 where
  pub there : (1 ≤ recipient) × (recipient ≤ count)
  pub narrow : IsTrue (is_narrow (val_of message))
  pub few_parts : IsTrue (has_few_parts (val_of message))
  pub in_time : time < 2 ^ 63
  pub small : length (packet_bytes sender time (val_of message)) ≤ 60000

-- what an action sends may be given
abbrev pub MayGive : ℕ → Action → Type 0
MayGive count (Sent sender recipient time message) = IsGift count sender recipient time message
MayGive count _ = Unit {0}

abbrev pub MayGiveAll : ℕ → List Action → Type 0
MayGiveAll count = AllByRecursion (MayGive count)

-- a link gained the first ones of these entries, and others are left
pub record GainsFront (before after : Option (List LinkEntry)) (entries : List LinkEntry) : Type 0 where
  pub given : List LinkEntry
  pub left : List LinkEntry
  pub told : Gains before after given
  pub whole : entries ≡ given ++ left

-- a link gained the first ones of these entries, but not all
pub record GainsSome (before after : Option (List LinkEntry)) (entries : List LinkEntry) : Type 0 where
  pub front : GainsFront before after entries
  pub some_left : 0 < length front.left

-- the text that is due where these entries are left to be given
abbrev pub due : List LinkEntry → List ℕ → List ℕ
due [] text = text
due (entry ∷ entries) text = []

-- what was written of a text that was due, by what cut it short
abbrev pub CutText : NodeOutcome → Option (List ℕ) → Option (List ℕ) → List ℕ → Type 0
CutText LinkFault before after text = Appends before after text
CutText WriteFault before after text = AppendsPrefix before after text
CutText Memory before after text = AppendsPrefix before after text
CutText _ before after text = ⊥

-- by a link that failed something is left, and by a sink that failed nothing
abbrev pub MayLeave : NodeOutcome → List LinkEntry → Type 0
MayLeave LinkFault left = 0 < length left
MayLeave WriteFault left = left ≡ []
MayLeave _ left = Unit {0}

-- The packets of some actions were given, and their lines written, up to what cut that short: a link gained a prefix of the gifts,
-- and the lines were written, or a prefix of them, where none was left.
pub record IsCutShort (outcome : NodeOutcome) (actions : List Action) (told_before told_after : Option (List LinkEntry)) (before after : Option (List ℕ)) : Type 0 where
  pub gained : GainsFront told_before told_after (gifts actions)
  pub left : MayLeave outcome gained.left
  pub written : CutText outcome before after (due gained.left (action_text actions))
