-- What the program answers where it is asked to run a node.
use Rattle.std.specs.Prelude.{◌≡◌, ◌<◌, ◌≤◌, ℕ, ◌⊎◌, List, [], ◌∷◌, length, codes, decimal, Option, Some, None}
use Rattle.da_lang.specs.declared.program.Program.{Program}
use Rattle.da_lang.specs.declared.ty.ChannelKind.{ChannelKind}
use Rattle.da_outside.specs.declared.link.LinkEntry.{LinkEntry}
use Rattle.da_outside.specs.declared.link.LinkEntry.TheVariants.{Bound}
use Rattle.da_outside.specs.Link as link
use Rattle.da_outside.specs.Outside.{Appends, AppendsPrefix}
use Rattle.node_run.specs.NodeCall.{HasRun, WasCut, WroteAll, WrotePrefix, WroteGiven}
use Rattle.node_run.specs.NodeRun.{NodeEnd, Round}
use Rattle.node_run.specs.NodeRun as by
use Rattle.da_front.specs.declared.refusal.RefusedKind.{RefusedKind}
use Rattle.da_front.specs.declared.refusal.RefusedKind.TheVariants as kind_is
use Rattle.da_commands.specs.declared.status.Status.{Status}
use Rattle.da_commands.specs.declared.status.Status.TheVariants.{Done, Refused, Idle, Spent, Faulted, Memory, WriteFault}
use Rattle.da_commands.specs.declared.words.NodeSetting.{NodeSetting}
use Rattle.da_commands.specs.Lines.{refused_text}
use Rattle.da_front.specs.Verdict.{Accepts, Refuses}

-- the numbers of a setting are within their ranges
pub record SettingInRange (setting : NodeSetting) : Type 0 where
  pub port : (1024 ≤ setting.port) × (setting.port ≤ 65000)
  pub me : (1 ≤ setting.me) × (setting.me ≤ 64)
  pub idle : (1 ≤ setting.idle) × (setting.idle ≤ 1000000000)
  pub turns : (1 ≤ setting.turns) × (setting.turns ≤ 1000000000)

-- these words spell its numbers
pub record IsSetting (setting : NodeSetting) (port me idle turns : List ℕ) : Type 0 where
  pub port_is : port ≡ decimal setting.port
  pub me_is : me ≡ decimal setting.me
  pub idle_is : idle ≡ decimal setting.idle
  pub turns_is : turns ≡ decimal setting.turns
  pub within : SettingInRange setting

-- the words ask to run a node of the program of this name
abbrev pub IsNode : List (List ℕ) → List ℕ → NodeSetting → Type 0
IsNode words program setting =
    (port : List ℕ) × (me : List ℕ) × (idle : List ℕ) × (turns : List ℕ)
    × (words ≡ codes "node" ∷ program ∷ port ∷ me ∷ idle ∷ turns ∷ []) × IsSetting setting port me idle turns

-- its program, where the text gives one, has channels of this kind
abbrev pub HasKind : List ℕ → ChannelKind → Type 0
HasKind text kind = (program : Program) → Accepts text program → program.kind ≡ kind

-- a text gives a program that has this process
pub record MayRun (text : List ℕ) (setting : NodeSetting) (program : Program) : Type 0 where
  pub accepts : Accepts text program
  pub there : setting.me ≤ length program.procs

-- a text that gives no such program is refused so
pub data NodeRefuses (text : List ℕ) (setting : NodeSetting) : RefusedKind → ℕ → Type 0 where
  declined : (kind : RefusedKind) (line : ℕ) → Refuses text kind line → NodeRefuses text setting kind line
  by_number : (program : Program) → Accepts text program → length program.procs < setting.me → NodeRefuses text setting kind_is.Me 0

-- what the link tells of its binding
abbrev pub binding : Program → NodeSetting → LinkEntry
binding program setting = Bound setting.port setting.me (length program.procs)

-- the status of a node that ended so
abbrev pub status_for : NodeEnd → Option Status
status_for by.Done = Some Done
status_for by.Faulted = Some Faulted
status_for by.Idle = Some Idle
status_for by.Spent = Some Spent
status_for by.AsksAgain = None

-- With this status the text was refused, and the link tells what it told; or the link was bound and the node ran to its end.
pub data HasAnswered (text : List ℕ) (setting : NodeSetting) (status : Status) (told_before told_after : Option (List LinkEntry)) (before after : Option (List ℕ)) : Type 0 where
  refused : (kind : RefusedKind) (line : ℕ) → NodeRefuses text setting kind line → status ≡ Refused kind line
      → link.Gains told_before told_after [] → Appends before after (refused_text kind line)
      → HasAnswered text setting status told_before told_after before after
  ran : (program : Program) (end : NodeEnd) (told_between : Option (List LinkEntry)) → MayRun text setting program → status_for end ≡ Some status
      → link.Gains told_before told_between (binding program setting ∷ [])
      → HasRun program setting.me setting.idle setting.turns end told_between told_after before after
      → HasAnswered text setting status told_before told_after before after

-- The link was bound and the node was cut short: of the lines that were due so much was written.
pub record WasCutBound (text : List ℕ) (setting : NodeSetting) (told_before told_after : Option (List LinkEntry)) (before after : Option (List ℕ))
    (Wrote : ℕ → Option (List ℕ) → Option (List ℕ) → List Round → Type 0) : Type 0 where
  pub program : Program
  pub may : MayRun text setting program
  pub told_between : Option (List LinkEntry)
  pub bound : link.Gains told_before told_between (binding program setting ∷ [])
  pub cut : WasCut program setting.me setting.idle setting.turns told_between told_after before after Wrote

-- A link failed: it was not bound, and nothing was written; or the node was cut short.
pub data LinkFailed (text : List ℕ) (setting : NodeSetting) (told_before told_after : Option (List LinkEntry)) (before after : Option (List ℕ)) : Type 0 where
  unbound : (program : Program) → MayRun text setting program → link.Gains told_before told_after [] → Appends before after []
      → LinkFailed text setting told_before told_after before after
  running : WasCutBound text setting told_before told_after before after WroteAll → LinkFailed text setting told_before told_after before after

-- A read or a write failed, or memory was refused. Nothing was written and the link was not bound, or a prefix of a refusal was
-- written. Or the node was cut short: where a write failed, the packets of each round that was begun were given.
pub data HasStopped (text : List ℕ) (setting : NodeSetting) (status : Status) (told_before told_after : Option (List LinkEntry)) (before after : Option (List ℕ)) : Type 0 where
  early : link.Gains told_before told_after [] → Appends before after [] → HasStopped text setting status told_before told_after before after
  refusing : (kind : RefusedKind) (line : ℕ) → NodeRefuses text setting kind line → link.Gains told_before told_after []
      → AppendsPrefix before after (refused_text kind line) → HasStopped text setting status told_before told_after before after
  writing : status ≡ WriteFault → WasCutBound text setting told_before told_after before after WroteGiven → HasStopped text setting status told_before told_after before after
  running : status ≡ Memory → WasCutBound text setting told_before told_after before after WrotePrefix → HasStopped text setting status told_before told_after before after

-- a link was not bound, or once: for this process of the program of the text
abbrev pub BindsOnce : List ℕ → NodeSetting → Option (List LinkEntry) → Option (List LinkEntry) → Type 0
BindsOnce text setting told_before told_after =
    link.Carries told_before told_after []
    ⊎ ((program : Program) × Accepts text program × link.Carries told_before told_after (binding program setting ∷ []))

-- the text was answered, or memory was refused
abbrev pub IsServed : List ℕ → NodeSetting → Status → Option (List LinkEntry) → Option (List LinkEntry) → Option (List ℕ) → Option (List ℕ) → Type 0
IsServed text setting status told_before told_after before after =
    (status ≡ Memory) ⊎ HasAnswered text setting status told_before told_after before after
