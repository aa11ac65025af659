use Rattle.std.proofs.Common.{refl, sym, ◌∙◌, true≢false}
use Rattle.lsp_server.proofs.RepliedLemmas.{down_ready, fresh_ready}
use Rattle.lsp_server.proofs.turns.is_ready.Goals as goal

pub returns-in-Ready : goal.returns-in-Ready
returns-in-Ready c = (λ yields. c.in-Ready.is, λ ready. refl)

pub returns-in-Fresh : goal.returns-in-Fresh
returns-in-Fresh c = (λ yields. absurd (true≢false (sym yields)), λ ready. absurd (fresh_ready (sym c.in-Fresh.is ∙ ready)))

pub returns-in-Down : goal.returns-in-Down
returns-in-Down c = (λ yields. absurd (true≢false (sym yields)), λ ready. absurd (down_ready (sym c.in-Down.is ∙ ready)))
