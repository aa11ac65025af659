use Rattle.std.proofs.Common.{subst, IfOk}
use Rattle.lsp_server.specs.Letters.{IsSent}
use Rattle.lsp_server.proofs.letters.notice.Goals as goal

pub returns : goal.returns
returns c = subst (λ d. IfOk c.framed.result (IsSent d)) c.in_ok-letter.ensures c.framed.ensures
