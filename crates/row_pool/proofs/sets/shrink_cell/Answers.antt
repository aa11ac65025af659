use Rattle.da_values.specs.Value.{val_of}
use Rattle.row_pool.specs.Index.{under}
use Rattle.row_pool.proofs.GrowLaws.{shrinks_to}
use Rattle.row_pool.proofs.PutLaws.{left_under}
use Rattle.row_pool.proofs.sets.shrink_cell.Goals as goal

pub take_key-requires : goal.take_key-requires
take_key-requires c =
    left_under (under c.args.index.now) (under c.put_key.new.index) c.args.cells.now.slots c.args.mark c.args.key c.take_part-taken.result.mark c.requires.used c.requires.there c.in_ok-put_key.ensures.ok
    (λ cell at. (c.take_part-taken.ensures cell at).old)

pub returns-clause-ok : goal.returns-clause-ok
returns-clause-ok c = λ cell at.
    shrinks_to (under c.args.index.now) (under c.put_key.new.index) (under c.take_key.new.index) c.args.cells.now.slots c.take_part-taken.new.cells.slots c.args.key cell c.args.at (val_of c.args.v.now) c.args.mark
    c.take_part-taken.result.mark c.take_part-taken.result.part c.in_ok-put_key.ensures.ok (c.take_part-taken.ensures cell at) c.take_key.ensures
