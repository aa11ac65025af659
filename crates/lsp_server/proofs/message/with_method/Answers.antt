use Rattle.std.proofs.Common.{ap, ◌∙◌, Some}
use Rattle.lsp_server.specs.Heard.{heard_by}
use Rattle.lsp_server.proofs.JsonLemmas.{found_none, found_some, shown}
use Rattle.lsp_server.proofs.message.with_method.Goals as goal

pub returns-in-Some : goal.returns-in-Some
returns-in-Some c = λ done. c.asked.ensures done ∙ ap (λ id. heard_by (Some c.args.method.now) id done) (found_some shown c.get.result _ c.get.ensures c.in-Some.id c.in-Some.is)

pub returns-in-None : goal.returns-in-None
returns-in-None c = λ done. ap (λ id. heard_by (Some c.args.method.now) id done) (found_none shown c.get.result _ c.get.ensures c.in-None.is)
