use Rattle.serde_json.specs.Data.{null}
use Rattle.lsp_server.specs.Letters.{IsSent, refusal}
use Rattle.lsp_server.proofs.RepliedLemmas.{memory_replied, sent_as}
use Rattle.lsp_server.proofs.CauseLemmas.{ended}
use Rattle.lsp_server.proofs.turns.refuse.Goals as goal

pub returns-in-Ok-clause-replied : goal.returns-in-Ok-clause-replied
returns-in-Ok-clause-replied g c = sent_as (IsSent (refusal null c.args.fault)) c.in-Ok.bytes _ _ _ c.send.result c.as_slice.ensures c.in-Ok.ensures c.send.ensures.replied

pub returns-in-Err-clause-replied : goal.returns-in-Err-clause-replied
returns-in-Err-clause-replied g c = memory_replied _ _

pub returns-in-Ok-clause-moved : goal.returns-in-Ok-clause-moved
returns-in-Ok-clause-moved g c = c.send.ensures.moved

pub returns-in-Err-clause-moved : goal.returns-in-Err-clause-moved
returns-in-Err-clause-moved g c = λ none. ended _ none
