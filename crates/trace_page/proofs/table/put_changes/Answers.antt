use Rattle.std.proofs.Common.{◌++◌, ◌∙◌, ap, append-nil, sym}
use Rattle.trace_page.specs.PageText.{changes_text}
use Rattle.trace_page.proofs.table.put_changes.Goals as goal

pub returns-in-Trace : goal.returns-in-Trace
returns-in-Trace c = sym (append-nil c.args.out.now) ∙ ap (λ kind. c.args.out.now ++ changes_text kind c.args.changes.now) (sym c.in-Trace.is)
