use Rattle.std.proofs.Common.{◌++◌, ◌∙◌, ap, append_assoc, map, sym}
use Rattle.std.specs.Prelude.{codes}
use Rattle.da_values.specs.Text.{separated, value_text}
use Rattle.da_values.specs.Value.{vals}
use Rattle.sched_text.proofs.ActionLemmas.{set_text}
use Rattle.run_page.proofs.cells.set_text.Goals as goal

pub returns : goal.returns
returns c =
    let shown = separated (map value_text (vals c.args.values.now)) in
    c.in_ok-append-2.ensures.ok ∙ ap (λ text. text ++ codes "}") (c.in_ok-put_separated.ensures ∙ ap (λ text. text ++ shown) (c.in_ok-append.ensures.ok ∙ ap (λ text. text ++ codes "{") c.new-text.ensures))
    ∙ append_assoc (codes "{") shown (codes "}") ∙ sym (set_text (vals c.args.values.now))
