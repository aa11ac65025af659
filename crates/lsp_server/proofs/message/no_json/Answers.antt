use Rattle.std.proofs.Common.{refl, sym, ◌∙◌, true≢false}
use Rattle.lsp_server.proofs.HeardLemmas.{unread_memory}
use Rattle.lsp_server.proofs.message.no_json.Goals as goal

pub returns-then-is_memory : goal.returns-then-is_memory
returns-then-is_memory c = (λ same. c.is_memory.ensures.0 c.if-is_memory.true, λ memory. refl)

pub returns-else-is_memory : goal.returns-else-is_memory
returns-else-is_memory c = (λ same. absurd (unread_memory same), λ memory. absurd (true≢false (sym (c.is_memory.ensures.1 memory) ∙ c.if-is_memory.false)))
