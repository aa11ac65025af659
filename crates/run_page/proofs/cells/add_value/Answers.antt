use Rattle.std.proofs.Common.{◌++◌, ◌∙◌, ap}
use Rattle.std.proofs.lemmas.Result.{on_ok_weaker}
use Rattle.da_values.specs.Text.{value_text}
use Rattle.da_values.specs.Value.{val_of}
use Rattle.run_page.specs.Cells.{slot_name}
use Rattle.run_page.proofs.CellLemmas.{cell_made}
use Rattle.run_page.proofs.cells.add_value.Goals as goal

pub returns : goal.returns
returns c =
    on_ok_weaker c.push.result
    (cell_made c.in_ok-name.name c.write_value.new.out (slot_name c.args.names.now c.args.number) (value_text (val_of c.args.value.now)) c.args.cells.now c.push.new.self c.in_ok-name.ensures
    (c.in_ok-write_value.ensures.ok ∙ ap (λ before. before ++ value_text (val_of c.args.value.now)) c.new-text.ensures)) c.push.ensures.ok
