use Rattle.std.proofs.Common.{ap, sym, ◌∙◌, None}
use Rattle.lsp_server.specs.Heard.{heard_by}
use Rattle.lsp_server.proofs.message.without_method.Goals as goal

pub returns-then-is_answer : goal.returns-then-is_answer
returns-then-is_answer c = λ id. ap (heard_by None id) (sym c.if-is_answer.true ∙ c.is_answer.ensures)

pub returns-else-is_answer : goal.returns-else-is_answer
returns-else-is_answer c = λ id. ap (heard_by None id) (sym c.if-is_answer.false ∙ c.is_answer.ensures)
