use Rattle.std.proofs.Common.{subst, IfOk}
use Rattle.lsp_server.specs.Letters.{IsSent, refusal}
use Rattle.lsp_server.proofs.letters.refusal_of_none.Goals as goal

pub returns : goal.returns
returns c = subst (λ d. IfOk c.refusal.result (IsSent (refusal d c.args.fault))) c.null_value-none.ensures c.refusal.ensures
