use Rattle.lsp_server.proofs.ChangeLemmas.{given_text, no_text}
use Rattle.lsp_server.proofs.noted.when_opened.Goals as goal

pub returns-in-Some : goal.returns-in-Some
returns-in-Some c = given_text c.args.uri.now c.opened_text.result c.in-Some.text _ c.opened_text.ensures c.in-Some.is

pub returns-in-None : goal.returns-in-None
returns-in-None c = no_text c.args.uri.now c.opened_text.result _ c.opened_text.ensures c.in-None.is
