use Rattle.std.proofs.Common.{[], ◌++◌}
use Rattle.row_pool.proofs.TradeLaws.{holds_after, holds_on}
use Rattle.answer_index.specs.Answers.{ids_of}
use Rattle.answer_index.proofs.HolderLaws.{set_stays}
use Rattle.store_cases.proofs.worked.put.Goals as goal

pub insert-requires-clause-set : goal.insert-requires-clause-set
insert-requires-clause-set c =
    set_stays c.args.pool.now c.intern_row.new.pool [] c.in_ok-made.made.ids c.args.set.now c.in_ok-made.ensures.ok c.requires.held c.requires.set

pub insert-requires-clause-held : goal.insert-requires-clause-held
insert-requires-clause-held c =
    holds_on c.args.pool.now c.intern_row.new.pool [] c.in_ok-made.made.ids (ids_of c.args.set.now) c.in_ok-made.ensures.ok c.requires.held

pub returns-clause-held : goal.returns-clause-held
returns-clause-held c =
    holds_after c.intern_row.new.pool c.insert.new.pool (c.in_ok-made.made.ids ++ ids_of c.args.set.now) (ids_of c.insert.new.self)
    (holds_on c.args.pool.now c.intern_row.new.pool [] c.in_ok-made.made.ids (ids_of c.args.set.now) c.in_ok-made.ensures.ok c.requires.held)
    c.insert.ensures.trades
