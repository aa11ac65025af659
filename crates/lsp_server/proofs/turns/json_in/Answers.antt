use Rattle.std.proofs.Common.{subst, ℕ, List, IfErr, IfOk, ◌≢◌}
use Rattle.serde_json.specs.View.{view}
use Rattle.lsp_server.specs.declared.message.NoJson.TheVariants as why_is
use Rattle.lsp_server.specs.Heard.{Says, SaysNothing}
use Rattle.lsp_server.proofs.turns.json_in.Goals as goal

pub returns-clause-says : goal.returns-clause-says
returns-clause-says c = subst (λ (content : List ℕ). IfOk c.json_of.result (λ v. Says content (view v))) c.content-content.ensures c.json_of.ensures.says

pub returns-clause-nothing : goal.returns-clause-nothing
returns-clause-nothing c = subst (λ (content : List ℕ). IfErr c.json_of.result (λ why. why ≢ why_is.Memory → SaysNothing content)) c.content-content.ensures c.json_of.ensures.nothing
