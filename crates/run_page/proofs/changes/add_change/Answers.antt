use Rattle.std.proofs.Common.{[], ◌∷◌, ◌++◌, ◌∙◌, ap, append-nil, sym}
use Rattle.std.proofs.lemmas.Result.{on_ok_weaker}
use Rattle.std.specs.Prelude.{bytes_eq, if◌then◌else◌}
use Rattle.run_page.specs.Cells.{changed}
use Rattle.run_page.proofs.changes.add_change.Goals as goal

pub returns-then-eq : goal.returns-then-eq
returns-then-eq c =
    sym (append-nil c.args.found.now)
    ∙ ap (λ same. c.args.found.now ++ (if same then [] else changed c.args.process c.args.place c.args.cell.now ∷ [])) (sym c.if-eq.true ∙ c.eq.ensures ∙ ap (bytes_eq c.args.earlier.now) c.as_slice.ensures)

pub returns : goal.returns
returns c =
    on_ok_weaker c.put_change.result
    (λ adds.
    adds
    ∙ ap (λ same. c.args.found.now ++ (if same then [] else changed c.args.process c.args.place c.args.cell.now ∷ [])) (sym c.if-eq.false ∙ c.eq.ensures ∙ ap (bytes_eq c.args.earlier.now) c.as_slice.ensures)) c.put_change.ensures
