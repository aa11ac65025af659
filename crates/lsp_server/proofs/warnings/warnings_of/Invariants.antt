use Rattle.serde_json.specs.View.{items_view}
use Rattle.lsp_server.specs.Notices.{AreWarnings}
use Rattle.lsp_server.proofs.warnings.warnings_of.Given as goal

abbrev pub invariant-loop-remark : goal.invariant-loop-remark
invariant-loop-remark l = AreWarnings (items_view l.list.items)
