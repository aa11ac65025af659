use Rattle.serde_json.specs.View.{members_view}
use Rattle.serde_json.proofs.Views.{view-Object}
use Rattle.lsp_server.proofs.NoticeLemmas.{severity_put}
use Rattle.lsp_server.proofs.warnings.warning.Goals as goal

pub returns : goal.returns
returns c = severity_put _ _ (members_view c.shown_remark-members.result.entries) _ c.from.ensures c.in_ok-put_member.ensures (view-Object c.put_member.new.members)
