use Rattle.std.proofs.Common.{◌∙◌}
use Rattle.std.specs.Prelude.{codes}
use Rattle.lsp_server.specs.Notices.{text_at}
use Rattle.lsp_server.proofs.JsonLemmas.{followed, followed_none, shown}
use Rattle.lsp_server.proofs.noted.uri_of.Goals as goal

pub returns-in-Some : goal.returns-in-Some
returns-in-Some c = c.text_at.ensures ∙ followed shown (text_at (codes "uri")) c.document_of.result _ c.document_of.ensures c.in-Some.document c.in-Some.is

pub returns-in-None : goal.returns-in-None
returns-in-None c = followed_none shown (text_at (codes "uri")) c.document_of.result _ c.document_of.ensures c.in-None.is
