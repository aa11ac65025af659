use Rattle.std.proofs.Common.{ap, ◌∙◌}
use Rattle.serde_json.specs.View.{members_view, view}
use Rattle.serde_json.proofs.Views.{view-Object}
use Rattle.lsp_server.proofs.LetterLemmas.{made_answer}
use Rattle.lsp_server.proofs.letters.answer_value.Goals as goal

pub returns : goal.returns
returns c =
    view-Object c.put_member-2.new.members
    ∙ made_answer (view c.args.id.now) (view c.args.done) _ _ _ _ _ (ap members_view c.new-members.ensures.empty)
    c.in_ok-copy_of.ensures c.in_ok-put_member.ensures c.in_ok-put_text.ensures c.in_ok-put_member-2.ensures
