use Rattle.std.specs.Option.{option_copied_mut}
use Rattle.std.proofs.Common.{sym, ap, ◌∙◌}
use Rattle.std.proofs.lemmas.Result.{on_err_weaker}
use Rattle.da_values.specs.Value.{val_of}
use Rattle.row_pool.proofs.PutLaws.{put_nothing, puts_in}
use Rattle.row_pool.proofs.sets.put_part.Goals as goal

pub put_in_cell-requires : goal.put_in_cell-requires
put_in_cell-requires c = c.requires c.in-Some.cell.now (sym c.get_mut.ensures.value ∙ ap option_copied_mut c.in-Some.is)

pub returns-in-Some-clause-ok : goal.returns-in-Some-clause-ok
returns-in-Some-clause-ok c =
    puts_in c.args.cells.now.slots c.args.key c.in-Some.cell.now c.put_in_cell.new.cell (sym c.get_mut.ensures.value ∙ ap option_copied_mut c.in-Some.is) c.args.at (val_of c.args.element) c.args.part c.args.mark c.put_in_cell.result
    c.put_in_cell.ensures.grows c.put_in_cell.ensures.was

pub returns-in-Some-clause-err : goal.returns-in-Some-clause-err
returns-in-Some-clause-err c =
    on_err_weaker c.put_in_cell.result (put_nothing c.args.cells.now.slots c.args.key c.in-Some.cell.now c.put_in_cell.new.cell (sym c.get_mut.ensures.value ∙ ap option_copied_mut c.in-Some.is)) c.put_in_cell.ensures.err
