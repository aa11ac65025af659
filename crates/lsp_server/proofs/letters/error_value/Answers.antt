use Rattle.std.proofs.Common.{ap, ◌∙◌}
use Rattle.serde_json.specs.Data.{string}
use Rattle.serde_json.specs.View.{members_view}
use Rattle.serde_json.proofs.Views.{view-Object}
use Rattle.lsp_server.proofs.LetterLemmas.{made_error}
use Rattle.lsp_server.proofs.letters.error_value.Goals as goal

pub returns : goal.returns
returns c =
    view-Object c.put_text.new.members
    ∙ made_error c.args.fault _ _ _ _ _ (ap members_view c.new-members.ensures.empty) c.code_value.ensures (ap string c.text_of.ensures)
    c.in_ok-put_member.ensures c.in_ok-put_text.ensures
