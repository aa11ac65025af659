use Rattle.std.proofs.Common.{◌∙◌}
use Rattle.lsp_server.specs.Notices.{last_item}
use Rattle.lsp_server.proofs.JsonLemmas.{followed, followed_none, list_shown}
use Rattle.lsp_server.proofs.noted.last_change.Goals as goal

pub returns-in-Some : goal.returns-in-Some
returns-in-Some c = c.last_of.ensures ∙ followed list_shown last_item c.changes_of.result _ c.changes_of.ensures c.in-Some.list c.in-Some.is

pub returns-in-None : goal.returns-in-None
returns-in-None c = followed_none list_shown last_item c.changes_of.result _ c.changes_of.ensures c.in-None.is
