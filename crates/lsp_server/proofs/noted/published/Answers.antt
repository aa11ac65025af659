use Rattle.std.proofs.Common.{ap, subst, IfOk}
use Rattle.serde_json.specs.View.{items_view, members_view}
use Rattle.serde_json.proofs.Views.{view-Array, view-Object}
use Rattle.lsp_server.specs.Letters.{IsSent}
use Rattle.lsp_server.proofs.LetterLemmas.{made_published}
use Rattle.lsp_server.proofs.noted.published.Goals as goal

pub returns : goal.returns
returns c =
    subst (λ d. IfOk c.notice.result (IsSent d))
    (made_published c.args.uri.now (items_view c.args.list.items) _ _ _ _ _ _ (ap members_view c.new-members.ensures.empty)
    (view-Array c.args.list) c.in_ok-put_member.ensures c.as_bytes.ensures.value c.in_ok-put_text.ensures (view-Object c.put_text.new.members))
    c.notice.ensures
