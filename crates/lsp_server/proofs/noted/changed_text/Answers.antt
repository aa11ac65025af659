use Rattle.std.proofs.Common.{◌∙◌}
use Rattle.std.specs.Prelude.{codes}
use Rattle.lsp_server.specs.Notices.{text_at}
use Rattle.lsp_server.proofs.JsonLemmas.{followed, followed_none, shown}
use Rattle.lsp_server.proofs.noted.changed_text.Goals as goal

pub returns-in-Some : goal.returns-in-Some
returns-in-Some c = c.text_at.ensures ∙ followed shown (text_at (codes "text")) c.last_change.result _ c.last_change.ensures c.in-Some.change c.in-Some.is

pub returns-in-None : goal.returns-in-None
returns-in-None c = followed_none shown (text_at (codes "text")) c.last_change.result _ c.last_change.ensures c.in-None.is
