use Rattle.std.proofs.Common.{subst, IfOk}
use Rattle.serde_json.specs.View.{view}
use Rattle.lsp_server.specs.Letters.{IsSent, answer}
use Rattle.lsp_server.proofs.letters.answer_null.Goals as goal

pub returns : goal.returns
returns c = subst (λ d. IfOk c.answer.result (IsSent (answer (view c.args.id.now) d))) c.null_value-none.ensures c.answer.ensures
