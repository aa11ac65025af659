use Rattle.std.proofs.Common.{◌∙◌, ap, sym}
use Rattle.std.proofs.lemmas.Bool.{eq-eqb, ne_eqb}
use Rattle.std.specs.Prelude.{◌&&◌}
use Rattle.trace_page.specs.Rows.{follows, process_of}
use Rattle.trace_page.proofs.rows.goes_on.Goals as goal

pub returns-then-p-q : goal.returns-then-p-q
returns-then-p-q c =
    let a = c.args.a.now in
    let b = c.args.b.now in
    c.follows.ensures ∙ ap (λ t. t && follows a b) (sym (eq-eqb (process_of a) (process_of b) (sym c.process_of-p.ensures ∙ c.if-p-q.true ∙ c.process_of-q.ensures)))

pub returns-else-p-q : goal.returns-else-p-q
returns-else-p-q c =
    let a = c.args.a.now in
    let b = c.args.b.now in
    ne_eqb c.process_of-p.result c.process_of-q.result c.if-p-q.false
    ∙ sym (ap (λ t. t && follows a b) (ne_eqb (process_of a) (process_of b) (λ same. c.if-p-q.false (c.process_of-p.ensures ∙ same ∙ sym c.process_of-q.ensures))))
