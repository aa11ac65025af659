use Rattle.std.proofs.Common.{◌∙◌}
use Rattle.lsp_server.specs.Notices.{changes_in}
use Rattle.lsp_server.proofs.JsonLemmas.{followed, followed_none, shown}
use Rattle.lsp_server.proofs.noted.changes_of.Goals as goal

pub returns-in-Some : goal.returns-in-Some
returns-in-Some c = c.list_at.ensures ∙ followed shown changes_in c.params_of.result _ c.params_of.ensures c.in-Some.params c.in-Some.is

pub returns-in-None : goal.returns-in-None
returns-in-None c = followed_none shown changes_in c.params_of.result _ c.params_of.ensures c.in-None.is
