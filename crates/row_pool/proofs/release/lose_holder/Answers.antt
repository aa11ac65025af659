use Rattle.std.specs.Prelude.{Some, slice_set}
use Rattle.std.specs.Option.{option_copied_mut}
use Rattle.std.proofs.Common.{sym, ap, ◌∙◌}
use Rattle.row_pool.proofs.CellLaws.{alive_is}
use Rattle.row_pool.proofs.PutLaws.{as_many, loses_by, put_marked}
use Rattle.row_pool.proofs.release.lose_holder.Goals as goal

pub returns-in-Some-clause-loses : goal.returns-in-Some-clause-loses
returns-in-Some-clause-loses c =
    loses_by c.args.cells.now.slots c.args.key c.in-Some.cell.now c.lose_one.new.cell (sym c.get_mut.ensures.value ∙ ap option_copied_mut c.in-Some.is) c.args.first c.lose_one.result c.lose_one.ensures.last
    c.lose_one.ensures.more

pub returns-in-Some-clause-marked : goal.returns-in-Some-clause-marked
returns-in-Some-clause-marked c = λ numbers.
    put_marked c.args.cells.now.slots c.args.key c.in-Some.cell.now c.lose_one.new.cell (sym c.get_mut.ensures.value ∙ ap option_copied_mut c.in-Some.is) numbers c.lose_one.ensures.value c.lose_one.ensures.mark

pub returns-in-Some-clause-len : goal.returns-in-Some-clause-len
returns-in-Some-clause-len c =
    sym (alive_is (slice_set c.args.cells.now.slots c.args.key (Some c.lose_one.new.cell)))
    ∙ as_many c.args.cells.now.slots c.args.key c.in-Some.cell.now c.lose_one.new.cell (sym c.get_mut.ensures.value ∙ ap option_copied_mut c.in-Some.is) ∙ alive_is c.args.cells.now.slots
