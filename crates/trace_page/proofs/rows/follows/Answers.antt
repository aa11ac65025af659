use Rattle.std.proofs.Common.{◌∙◌, ap, sym}
use Rattle.std.specs.Prelude.{◌&&◌, ◌||◌, nat_lt}
use Rattle.trace_page.specs.Rows.{query_of}
use Rattle.trace_page.proofs.rows.follows.Goals as goal

pub returns-then-does_more : goal.returns-then-does_more
returns-then-does_more c =
    c.if-does_more.true ∙ ap (λ t. t || (nat_lt 0 (query_of c.args.a.now) && nat_lt (query_of c.args.a.now) (query_of c.args.b.now))) (sym c.if-does_more.true ∙ c.does_more.ensures)

pub returns-else-does_more : goal.returns-else-does_more
returns-else-does_more c =
    c.answers_next.ensures ∙ ap (λ t. t || (nat_lt 0 (query_of c.args.a.now) && nat_lt (query_of c.args.a.now) (query_of c.args.b.now))) (sym c.if-does_more.false ∙ c.does_more.ensures)
