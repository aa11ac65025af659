use Rattle.std.proofs.Common.{[], ◌++◌, ◌∙◌, ap, append-nil, append_assoc, sym}
use Rattle.std.proofs.lemmas.Bool.{eq-eqb, ne_eqb}
use Rattle.std.proofs.lemmas.Result.{on_ok_weaker}
use Rattle.std.specs.Prelude.{codes, decimal, if◌then◌else◌}
use Rattle.trace_page.proofs.label.put_alternative.Goals as goal

pub returns-then-k-eq0 : goal.returns-then-k-eq0
returns-then-k-eq0 c = sym (append-nil c.args.out.now) ∙ ap (λ none. c.args.out.now ++ (if none then [] else codes "alternative " ++ decimal c.args.k)) (sym (eq-eqb c.args.k 0 c.if-k-eq0.true))

pub returns : goal.returns
returns c =
    on_ok_weaker c.write_number.result
    (λ wrote.
    wrote ∙ ap (λ before. before ++ decimal c.args.k) c.in_ok-append.ensures.ok ∙ append_assoc c.args.out.now (codes "alternative ") (decimal c.args.k)
    ∙ ap (λ none. c.args.out.now ++ (if none then [] else codes "alternative " ++ decimal c.args.k)) (sym (ne_eqb c.args.k 0 c.if-k-eq0.false))) c.write_number.ensures.ok
