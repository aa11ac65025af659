use Rattle.std.proofs.Common.{◌∙◌}
use Rattle.serde_json.specs.View.{view}
use Rattle.lsp_server.specs.Notices.{change_to}
use Rattle.lsp_server.proofs.JsonLemmas.{followed, followed_none, text_shown}
use Rattle.lsp_server.proofs.noted.change_of.Goals as goal

pub returns-in-Some : goal.returns-in-Some
returns-in-Some c =
    c.change_to.ensures
    ∙ followed text_shown (change_to c.args.method.now (view c.args.value.now)) c.uri_of.result _ c.uri_of.ensures c.in-Some.uri c.in-Some.is

pub returns-in-None : goal.returns-in-None
returns-in-None c = followed_none text_shown (change_to c.args.method.now (view c.args.value.now)) c.uri_of.result _ c.uri_of.ensures c.in-None.is
