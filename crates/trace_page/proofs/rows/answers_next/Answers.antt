use Rattle.std.proofs.Common.{◌∙◌, ap, sym}
use Rattle.std.specs.Prelude.{◌&&◌, nat_lt}
use Rattle.trace_page.specs.Rows.{query_of}
use Rattle.trace_page.proofs.RowLemmas.{answers_later}
use Rattle.trace_page.proofs.rows.answers_next.Goals as goal

pub returns-then-first-eq0 : goal.returns-then-first-eq0
returns-then-first-eq0 c = ap (λ n. nat_lt 0 n && nat_lt n (query_of c.args.b.now)) (sym c.if-first-eq0.true ∙ c.query_of-first.ensures)

pub returns : goal.returns
returns c = answers_later c.query_of-first.result c.query_of-next.result c.args.a.now c.args.b.now c.query_of-first.ensures c.query_of-next.ensures c.if-first-eq0.false
