use Rattle.std.proofs.Common.{ap, ◌∙◌}
use Rattle.serde_json.specs.View.{members_view, view}
use Rattle.serde_json.proofs.Views.{view-Object}
use Rattle.lsp_server.proofs.LetterLemmas.{made_notice}
use Rattle.lsp_server.proofs.letters.notice_value.Goals as goal

pub returns : goal.returns
returns c =
    view-Object c.put_member.new.members
    ∙ made_notice c.args.method.now (view c.args.params) _ _ _ _ _ (ap members_view c.new-members.ensures.empty)
    c.in_ok-put_text.ensures c.as_bytes.ensures.value c.in_ok-put_text-2.ensures c.in_ok-put_member.ensures
