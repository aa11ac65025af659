use Rattle.std.proofs.Common.{ap}
use Rattle.da_values.specs.Value.{val_of}
use Rattle.row_pool.specs.Index.{under}
use Rattle.row_pool.proofs.GrowLaws.{grows_to}
use Rattle.row_pool.proofs.NumberLaws.{come_and_gone, has_come}
use Rattle.row_pool.proofs.PutLaws.{left_under}
use Rattle.row_pool.proofs.sets.grow_cell.Goals as goal

pub take_key-requires : goal.take_key-requires
take_key-requires c = left_under (under c.args.index.now) (under c.put_key.new.index) c.args.cells.now.slots c.args.mark c.args.key c.in-Ok.old c.requires.used c.requires.there c.in_ok-put_key.ensures.ok (λ cell at. (c.in-Ok.ensures.ok cell at).old)

pub take_key-requires-in-Err : goal.take_key-requires-in-Err
take_key-requires-in-Err c = has_come (under c.args.index.now) (under c.put_key.new.index) c.args.mark c.args.key c.in_ok-put_key.ensures.ok

pub returns-in-Ok-clause-ok : goal.returns-in-Ok-clause-ok
returns-in-Ok-clause-ok c = λ cell at.
    grows_to (under c.args.index.now) (under c.put_key.new.index) (under c.take_key.new.index) c.args.cells.now.slots c.put_part.new.cells.slots c.args.key cell c.args.at (val_of c.in_ok-element.element) (val_of c.args.v.now) c.args.part
    c.args.mark c.in-Ok.old (ap val_of c.in_ok-element.ensures) c.in_ok-put_key.ensures.ok (c.in-Ok.ensures.ok cell at) c.take_key.ensures

pub returns-in-Err-clause-listed : goal.returns-in-Err-clause-listed
returns-in-Err-clause-listed c = come_and_gone (under c.args.index.now) (under c.put_key.new.index) (under c.take_key-in-Err.new.index) c.args.mark c.args.key c.in_ok-put_key.ensures.ok c.take_key-in-Err.ensures
