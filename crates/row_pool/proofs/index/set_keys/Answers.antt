use Rattle.row_pool.proofs.NumberLaws.{same_entries}
use Rattle.row_pool.proofs.index.set_keys.Goals as goal

pub returns-in-Ok-clause-ok : goal.returns-in-Ok-clause-ok
returns-in-Ok-clause-ok c = c.in-Ok.ensures.updates

pub returns-clause-err : goal.returns-clause-err
returns-clause-err c = same_entries c.args.index.now c.insert.new.self c.in-Err.ensures.err
