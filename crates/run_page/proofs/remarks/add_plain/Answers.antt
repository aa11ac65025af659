use Rattle.std.proofs.Common.{[], ◌∷◌, ◌++◌, ◌∙◌, ap, append-nil, sym}
use Rattle.std.proofs.lemmas.Result.{on_ok_weaker}
use Rattle.std.specs.Prelude.{if◌then◌else◌}
use Rattle.run_page.proofs.remarks.add_plain.Goals as goal

pub returns-then-is_output : goal.returns-then-is_output
returns-then-is_output c =
    sym (append-nil c.args.remarks.now) ∙ ap (λ output. c.args.remarks.now ++ (if output then [] else c.args.words.now ∷ [])) (sym c.if-is_output.true ∙ c.is_output.ensures)

pub returns-else-is_output : goal.returns-else-is_output
returns-else-is_output c =
    on_ok_weaker c.add_copy.result
    (λ adds. adds ∙ ap (λ output. c.args.remarks.now ++ (if output then [] else c.args.words.now ∷ [])) (sym c.if-is_output.false ∙ c.is_output.ensures)) c.add_copy.ensures
