use Rattle.std.proofs.Common.{sym, ◌∙◌}
use Rattle.serde_json.specs.View.{view}
use Rattle.lsp_server.proofs.HeardLemmas.{asks_by, invalid_by}
use Rattle.lsp_server.proofs.message.asked.Goals as goal

pub returns-then-is_id : goal.returns-then-is_id
returns-then-is_id c = λ done. asks_by (view c.args.id.now) c.args.method.now done (sym c.if-is_id.true ∙ c.is_id.ensures)

pub returns-else-is_id : goal.returns-else-is_id
returns-else-is_id c = λ done. invalid_by (view c.args.id.now) c.args.method.now done (sym c.if-is_id.false ∙ c.is_id.ensures)
