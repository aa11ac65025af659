use Rattle.std.proofs.Common.{ap, None}
use Rattle.std.proofs.lemmas.Result.{IfOk-weaker}
use Rattle.serde_json.specs.View.{items_view}
use Rattle.lsp_server.specs.Letters.{IsSent}
use Rattle.lsp_server.specs.Notices.{Tells, published}
use Rattle.lsp_server.proofs.ChangeLemmas.{tells_none}
use Rattle.lsp_server.proofs.noted.shut.Goals as goal

pub returns : goal.returns
returns c =
    let items = items_view c.new-none.result.items in
    IfOk-weaker c.published.result (IsSent (published c.args.uri.now items)) (Tells (record { uri = c.args.uri.now; text = None }))
    (λ bytes sent. tells_none c.args.uri.now items bytes (ap items_view c.new-none.ensures.items) sent) c.published.ensures
