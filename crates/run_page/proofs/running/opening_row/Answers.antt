use Rattle.std.proofs.Common.{[], ◌++◌, ◌∙◌, ap, false, refl}
use Rattle.std.specs.Prelude.{codes}
use Rattle.run_page.specs.Cells.{changes}
use Rattle.run_page.proofs.RunLemmas.{row_of}
use Rattle.run_page.proofs.running.opening_row.Goals as goal

pub returns : goal.returns
returns c =
    row_of c.append.new.self (codes "the opening") c.new-actions.result [] c.in_ok-changes.changes (changes [] c.args.cells.now) false false (c.in_ok-append.ensures.ok ∙ ap (λ before. before ++ codes "the opening") c.new-words.ensures)
    c.new-actions.ensures c.in_ok-changes.ensures refl
