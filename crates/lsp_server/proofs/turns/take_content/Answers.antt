use Rattle.std.proofs.Common.{refl, sym, ◌∙◌}
use Rattle.serde_json.specs.View.{view}
use Rattle.lsp_server.specs.declared.status.Status.TheVariants.{Memory}
use Rattle.lsp_server.specs.Turns.{HasHeard}
use Rattle.lsp_server.proofs.HeardLemmas.{unread_memory}
use Rattle.lsp_server.proofs.CauseLemmas.{ended}
use Rattle.lsp_server.proofs.turns.take_content.Goals as goal

pub returns-in-Ok-clause-heard : goal.returns-in-Ok-clause-heard
returns-in-Ok-clause-heard g c = HasHeard.read (view c.in-Ok.value) c.in-Ok.ensures.says c.take_json.ensures.taken

pub returns-in-Err-Unread-clause-heard : goal.returns-in-Err-Unread-clause-heard
returns-in-Err-Unread-clause-heard g c =
    HasHeard.unread (c.in-Err-Unread.ensures.nothing (λ same. unread_memory (sym c.in-Err-Unread.field-0-is ∙ same))) c.refuse.ensures.phase c.refuse.ensures.replied

pub returns-in-Err-Memory-clause-heard : goal.returns-in-Err-Memory-clause-heard
returns-in-Err-Memory-clause-heard g c = HasHeard.stopped Memory tt refl refl

pub returns-in-Ok-clause-moved : goal.returns-in-Ok-clause-moved
returns-in-Ok-clause-moved g c = c.take_json.ensures.moved

pub returns-in-Err-Unread-clause-moved : goal.returns-in-Err-Unread-clause-moved
returns-in-Err-Unread-clause-moved g c = c.refuse.ensures.moved

pub returns-in-Err-Memory-clause-moved : goal.returns-in-Err-Memory-clause-moved
returns-in-Err-Memory-clause-moved g c = λ none. ended _ none
