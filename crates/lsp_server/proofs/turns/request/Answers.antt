use Rattle.std.proofs.Common.{◌∙◌}
use Rattle.serde_json.specs.View.{view}
use Rattle.lsp_server.specs.Session.{Answers, due}
use Rattle.lsp_server.proofs.RepliedLemmas.{memory_replied, sent_as}
use Rattle.lsp_server.proofs.CauseLemmas.{ended}
use Rattle.lsp_server.proofs.turns.request.Goals as goal

pub returns-in-Ok-clause-replied : goal.returns-in-Ok-clause-replied
returns-in-Ok-clause-replied g c =
    sent_as (Answers (due c.args.state.now.phase c.args.method.now) (view c.args.id.now)) c.in-Ok.bytes _ _ _ c.send.result c.as_slice.ensures c.in-Ok.ensures c.send.ensures.replied

pub returns-in-Ok-clause-phase : goal.returns-in-Ok-clause-phase
returns-in-Ok-clause-phase g c = c.send.ensures.phase ∙ c.phase_after-next.ensures

pub returns-in-Ok-clause-moved : goal.returns-in-Ok-clause-moved
returns-in-Ok-clause-moved g c = c.send.ensures.moved

pub returns-in-Err-clause-replied : goal.returns-in-Err-clause-replied
returns-in-Err-clause-replied g c = memory_replied _ _

pub returns-in-Err-clause-phase : goal.returns-in-Err-clause-phase
returns-in-Err-clause-phase g c = c.phase_after-next.ensures

pub returns-in-Err-clause-moved : goal.returns-in-Err-clause-moved
returns-in-Err-clause-moved g c = λ none. ended _ none
