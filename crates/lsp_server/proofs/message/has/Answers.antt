use Rattle.std.proofs.Common.{◌∙◌}
use Rattle.lsp_server.proofs.JsonLemmas.{shown, some_shown}
use Rattle.lsp_server.proofs.message.has.Goals as goal

pub returns : goal.returns
returns c = c.is_some.ensures ∙ some_shown shown c.get.result _ c.get.ensures
