use Rattle.std.proofs.Common.{◌++◌, refl}
use Rattle.std.proofs.lemmas.Result.{on_ok_weaker}
use Rattle.std.specs.Prelude.{decimal}
use Rattle.run_page.proofs.CellLemmas.{cell_made}
use Rattle.run_page.proofs.cells.add_numbered.Goals as goal

pub returns : goal.returns
returns c =
    on_ok_weaker c.push.result (cell_made c.in_ok-name.name c.args.value (c.args.word.now ++ decimal c.args.number) c.args.value c.args.cells.now c.push.new.self c.in_ok-name.ensures refl) c.push.ensures.ok
