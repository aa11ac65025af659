use Rattle.std.proofs.Common.{[], ◌++◌, ◌∙◌, ap, append-nil, sym}
use Rattle.std.proofs.lemmas.Bool.{eq-eqb, ne_eqb}
use Rattle.std.proofs.lemmas.Result.{on_ok_weaker}
use Rattle.std.specs.Prelude.{decimal, if◌then◌else◌}
use Rattle.run_page.proofs.cells.put_line.Goals as goal

pub returns-then-line-eq0 : goal.returns-then-line-eq0
returns-then-line-eq0 c = sym (append-nil c.args.out.now) ∙ ap (λ none. c.args.out.now ++ (if none then [] else decimal c.args.line)) (sym (eq-eqb c.args.line 0 c.if-line-eq0.true))

pub returns : goal.returns
returns c =
    on_ok_weaker c.write_number.result
    (λ wrote. wrote ∙ ap (λ none. c.args.out.now ++ (if none then [] else decimal c.args.line)) (sym (ne_eqb c.args.line 0 c.if-line-eq0.false))) c.write_number.ensures.ok
