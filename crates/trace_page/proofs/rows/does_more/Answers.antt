use Rattle.std.proofs.Common.{◌∙◌, ap, sym}
use Rattle.std.specs.Prelude.{◌&&◌}
use Rattle.trace_page.specs.Rows.{comes_later}
use Rattle.trace_page.proofs.rows.does_more.Goals as goal

pub returns-then-may_go_on : goal.returns-then-may_go_on
returns-then-may_go_on c = c.comes_later.ensures ∙ ap (λ t. t && comes_later c.args.b.now) (sym c.if-may_go_on.true ∙ c.may_go_on.ensures)

pub returns-else-may_go_on : goal.returns-else-may_go_on
returns-else-may_go_on c = c.if-may_go_on.false ∙ ap (λ t. t && comes_later c.args.b.now) (sym c.if-may_go_on.false ∙ c.may_go_on.ensures)
