use Rattle.std.proofs.lemmas.Result.{on_ok_weaker}
use Rattle.run_page.proofs.CellLemmas.{cell_made}
use Rattle.run_page.proofs.cells.add_cell.Goals as goal

pub returns : goal.returns
returns c =
    on_ok_weaker c.push.result (cell_made c.in_ok-name.name c.in_ok-value.value c.args.name.now c.args.value.now c.args.cells.now c.push.new.self c.in_ok-name.ensures c.in_ok-value.ensures) c.push.ensures.ok
