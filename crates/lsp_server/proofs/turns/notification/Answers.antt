use Rattle.std.proofs.Common.{subst, ◌∙◌}
use Rattle.lsp_frames.specs.declared.input.Input.{Input}
use Rattle.serde_json.specs.View.{view}
use Rattle.lsp_server.specs.Session.{TellsIn}
use Rattle.lsp_server.specs.Turns.{Passes}
use Rattle.lsp_server.proofs.RepliedLemmas.{memory_replied, sent_as}
use Rattle.lsp_server.proofs.CauseLemmas.{ended}
use Rattle.lsp_server.proofs.turns.notification.Goals as goal

pub returns-in-Ok-clause-replied : goal.returns-in-Ok-clause-replied
returns-in-Ok-clause-replied g c =
    sent_as (TellsIn c.args.state.now.phase c.args.method.now (view c.args.value.now)) c.in-Ok.bytes _ _ _ c.send.result c.as_slice.ensures c.in-Ok.ensures.tells c.send.ensures.replied

pub returns-in-Ok-clause-phase : goal.returns-in-Ok-clause-phase
returns-in-Ok-clause-phase g c = c.send.ensures.phase ∙ c.note_in.ensures.phase

pub returns-in-Ok-clause-moved : goal.returns-in-Ok-clause-moved
returns-in-Ok-clause-moved g c = λ none. subst (λ (input : Input). Passes input c.send.new.state.input c.args.extent) c.note_in.ensures.input (c.send.ensures.moved none)

pub returns-in-Err-clause-replied : goal.returns-in-Err-clause-replied
returns-in-Err-clause-replied g c = memory_replied _ _

pub returns-in-Err-clause-phase : goal.returns-in-Err-clause-phase
returns-in-Err-clause-phase g c = c.note_in.ensures.phase

pub returns-in-Err-clause-moved : goal.returns-in-Err-clause-moved
returns-in-Err-clause-moved g c = λ none. ended _ none
