use Rattle.lsp_server.proofs.RepliedLemmas.{memory_replied}
use Rattle.lsp_server.proofs.CauseLemmas.{ended}
use Rattle.lsp_server.proofs.turns.send.Goals as goal

pub returns-in-Ok-clause-moved : goal.returns-in-Ok-clause-moved
returns-in-Ok-clause-moved g c = λ none. c.in-Ok.ensures

pub returns-in-Err-clause-replied : goal.returns-in-Err-clause-replied
returns-in-Err-clause-replied g c = memory_replied _ _

pub returns-in-Err-clause-moved : goal.returns-in-Err-clause-moved
returns-in-Err-clause-moved g c = λ none. ended _ none
