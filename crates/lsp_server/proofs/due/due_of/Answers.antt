use Rattle.std.proofs.Common.{ap, sym, ◌∙◌}
use Rattle.lsp_server.specs.declared.phase.Phase.{Phase}
use Rattle.lsp_server.specs.Session.{due}
use Rattle.lsp_server.proofs.due.due_of.Goals as goal

pub returns-in-Fresh : goal.returns-in-Fresh
returns-in-Fresh c = c.due_fresh.ensures ∙ ap (λ (p : Phase). due p c.args.method.now) (sym c.in-Fresh.is)

pub returns-in-Ready : goal.returns-in-Ready
returns-in-Ready c = c.due_ready.ensures ∙ ap (λ (p : Phase). due p c.args.method.now) (sym c.in-Ready.is)

pub returns-in-Down : goal.returns-in-Down
returns-in-Down c = ap (λ (p : Phase). due p c.args.method.now) (sym c.in-Down.is)
