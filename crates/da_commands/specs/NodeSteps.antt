-- What the parts of the command `node` leave, by its status.
use Rattle.std.specs.Prelude.{◌≡◌, ◌⊎◌, ℕ, List, [], ◌∷◌, Option, Some}
use Rattle.da_lang.specs.declared.program.Program.{Program}
use Rattle.da_outside.specs.declared.link.LinkEntry.{LinkEntry}
use Rattle.da_outside.specs.Link.{Carries}
use Rattle.node_run.specs.NodeCall.{HasRun, WasCut, WroteAll, WrotePrefix, WroteGiven}
use Rattle.node_run.specs.NodeRun.{NodeEnd}
use Rattle.da_commands.specs.declared.status.Status.{Status}
use Rattle.da_commands.specs.declared.status.Status.TheVariants.{ChildFault, LinkFault, Memory, ReadFault, WriteFault}
use Rattle.da_commands.specs.declared.words.NodeSetting.{NodeSetting}
use Rattle.da_commands.specs.NodeReplies.{HasAnswered, HasStopped, LinkFailed, binding, status_for}
use Rattle.da_front.specs.Verdict.{Accepts}

-- what a node leaves that was asked for over a program's text
abbrev pub HasServed : List ℕ → NodeSetting → Status → Option (List LinkEntry) → Option (List LinkEntry) → Option (List ℕ) → Option (List ℕ) → Type 0
HasServed text setting LinkFault told_before told_after before after = LinkFailed text setting told_before told_after before after
HasServed text setting ReadFault told_before told_after before after = HasStopped text setting ReadFault told_before told_after before after
HasServed text setting WriteFault told_before told_after before after = HasStopped text setting WriteFault told_before told_after before after
HasServed text setting Memory told_before told_after before after = HasStopped text setting Memory told_before told_after before after
HasServed text setting ChildFault told_before told_after before after = ⊥
HasServed text setting status told_before told_after before after = HasAnswered text setting status told_before told_after before after

-- the same for each text of an accepted program
abbrev pub RunsProgram : Program → NodeSetting → Status → Option (List LinkEntry) → Option (List LinkEntry) → Option (List ℕ) → Option (List ℕ) → Type 0
RunsProgram program setting status told_before told_after before after =
    (text : List ℕ) → Accepts text program → HasServed text setting status told_before told_after before after

-- it binds a link once at most, as its setting says
abbrev pub BindsFor : Program → NodeSetting → Option (List LinkEntry) → Option (List LinkEntry) → Type 0
BindsFor program setting told_before told_after = Carries told_before told_after [] ⊎ Carries told_before told_after (binding program setting ∷ [])

-- what it leaves over a link that is bound
abbrev pub RunsBound : Program → NodeSetting → Status → Option (List LinkEntry) → Option (List LinkEntry) → Option (List ℕ) → Option (List ℕ) → Type 0
RunsBound program setting LinkFault told_before told_after before after =
    WasCut program setting.me setting.idle setting.turns told_before told_after before after WroteAll
RunsBound program setting WriteFault told_before told_after before after =
    WasCut program setting.me setting.idle setting.turns told_before told_after before after WroteGiven
RunsBound program setting Memory told_before told_after before after =
    WasCut program setting.me setting.idle setting.turns told_before told_after before after WrotePrefix
RunsBound program setting ReadFault told_before told_after before after = ⊥
RunsBound program setting ChildFault told_before told_after before after = ⊥
RunsBound program setting status told_before told_after before after =
    (end : NodeEnd) × (status_for end ≡ Some status) × HasRun program setting.me setting.idle setting.turns end told_before told_after before after
