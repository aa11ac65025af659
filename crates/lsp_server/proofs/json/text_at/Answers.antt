use Rattle.std.proofs.Common.{◌∙◌}
use Rattle.serde_json.specs.Find.{as_str}
use Rattle.lsp_server.proofs.JsonLemmas.{followed, followed_none, shown}
use Rattle.lsp_server.proofs.json.text_at.Goals as goal

pub returns-in-Some : goal.returns-in-Some
returns-in-Some c = c.as_str.ensures ∙ followed shown as_str c.get.result _ c.get.ensures c.in-Some.found c.in-Some.is

pub returns-in-None : goal.returns-in-None
returns-in-None c = followed_none shown as_str c.get.result _ c.get.ensures c.in-None.is
