use Rattle.std.proofs.Common.{ap, ◌∙◌, Some}
use Rattle.serde_json.specs.Data.{string}
use Rattle.serde_json.specs.View.{members_view}
use Rattle.serde_json.proofs.Views.{view-Object}
use Rattle.lsp_server.proofs.NoticeLemmas.{data_put}
use Rattle.lsp_server.proofs.checking.diagnostic.Goals as goal

pub returns : goal.returns
returns c =
    data_put c.as_slice-told.result.now (members_view c.shown_refusal-members.result.entries) _ _ c.in_ok-put_text.ensures (view-Object c.put_text.new.members)
    ∙ ap (λ line. Some (string line)) (c.as_slice-told.ensures ∙ c.in_ok-answer.ensures)
