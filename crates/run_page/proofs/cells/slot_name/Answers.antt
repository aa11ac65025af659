use Rattle.std.proofs.Common.{◌≡◌, ◌++◌, ◌∙◌}
use Rattle.std.proofs.lemmas.Result.{IfOk-weaker}
use Rattle.std.specs.Prelude.{codes, decimal}
use Rattle.run_page.specs.Cells.{slot_name}
use Rattle.run_page.proofs.CellLemmas.{named_first, named_none}
use Rattle.run_page.proofs.cells.slot_name.Goals as goal

pub returns-in-len1-up : goal.returns-in-len1-up
returns-in-len1-up c =
    IfOk-weaker c.copy_of.result (λ copy. copy ≡ c.as_slice.result.now) (λ name. name ≡ slot_name c.args.names.now c.args.number)
    (λ copy is. is ∙ c.as_slice.ensures ∙ named_first c.args.names.now c.args.number c.name-item.result c.in-len1-up.len_at_least c.name-item.is) c.copy_of.ensures

pub returns-in-empty : goal.returns-in-empty
returns-in-empty c =
    IfOk-weaker c.numbered.result (λ name. name ≡ codes "#" ++ decimal c.args.number) (λ name. name ≡ slot_name c.args.names.now c.args.number)
    (λ name is. is ∙ named_none c.args.names.now c.args.number c.in-empty.len_below) c.numbered.ensures
