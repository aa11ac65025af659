use Rattle.std.proofs.Common.{◌∙◌}
use Rattle.std.specs.Prelude.{codes}
use Rattle.serde_json.specs.Find.{get}
use Rattle.lsp_server.proofs.JsonLemmas.{followed, followed_none, shown}
use Rattle.lsp_server.proofs.noted.document_of.Goals as goal

pub returns-in-Some : goal.returns-in-Some
returns-in-Some c = c.get.ensures ∙ followed shown (get (codes "textDocument")) c.params_of.result _ c.params_of.ensures c.in-Some.params c.in-Some.is

pub returns-in-None : goal.returns-in-None
returns-in-None c = followed_none shown (get (codes "textDocument")) c.params_of.result _ c.params_of.ensures c.in-None.is
