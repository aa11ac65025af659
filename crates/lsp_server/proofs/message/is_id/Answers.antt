use Rattle.std.proofs.Common.{sym, ◌∙◌}
use Rattle.serde_json.specs.View.{view}
use Rattle.lsp_server.proofs.HeardLemmas.{integer_id, text_id}
use Rattle.lsp_server.proofs.message.is_id.Goals as goal

pub returns-then-is_string : goal.returns-then-is_string
returns-then-is_string c = text_id (view c.args.id.now) (sym c.if-is_string.true ∙ c.is_string.ensures)

pub returns : goal.returns
returns c = c.is_integer.ensures ∙ integer_id (view c.args.id.now) (sym c.if-is_string.false ∙ c.is_string.ensures)
