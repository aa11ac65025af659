use Rattle.std.proofs.Common.{Some}
use Rattle.std.proofs.lemmas.Result.{IfOk-weaker}
use Rattle.serde_json.specs.View.{items_view}
use Rattle.lsp_server.specs.Letters.{IsSent}
use Rattle.lsp_server.specs.Notices.{Tells, published}
use Rattle.lsp_server.proofs.ChangeLemmas.{tells_text}
use Rattle.lsp_server.proofs.noted.opened.Goals as goal

pub returns : goal.returns
returns c =
    let items = items_view c.in_ok-list.list.items in
    IfOk-weaker c.published.result (IsSent (published c.args.uri.now items)) (Tells (record { uri = c.args.uri.now; text = Some c.args.text.now }))
    (λ bytes sent. tells_text c.args.uri.now c.args.text.now c.as_bytes-bytes.result.now items bytes c.as_bytes-bytes.ensures.value c.in_ok-list.ensures sent) c.published.ensures
