use Rattle.std.proofs.Common.{[]}
use Rattle.row_pool.proofs.TradeLaws.{holds_on}
use Rattle.answer_index.specs.Answers.{ids_of}
use Rattle.answer_index.proofs.HolderLaws.{holds_rest, set_stays}
use Rattle.store_cases.proofs.CaseLaws.{left_held, left_set, row_left}
use Rattle.store_cases.proofs.worked.take.Goals as goal

pub remove-gone-requires-clause-set : goal.remove-gone-requires-clause-set
remove-gone-requires-clause-set c =
    set_stays c.args.pool.now c.intern_row.new.pool [] c.in_ok-made.made.ids c.args.set.now c.in_ok-made.ensures.ok c.requires.held c.requires.set

pub remove-gone-requires-clause-held : goal.remove-gone-requires-clause-held
remove-gone-requires-clause-held c =
    holds_rest c.intern_row.new.pool c.in_ok-made.made.ids (ids_of c.args.set.now)
    (holds_on c.args.pool.now c.intern_row.new.pool [] c.in_ok-made.made.ids (ids_of c.args.set.now) c.in_ok-made.ensures.ok c.requires.held)

pub give_back_row-requires : goal.give_back_row-requires
give_back_row-requires c = row_left c.args.pool.now c.intern_row.new.pool c.remove-gone.new.pool c.in_ok-made.made.ids c.args.set.now c.remove-gone.new.self
    c.in_ok-made.ensures.ok c.requires.held c.remove-gone.ensures.trades

pub returns-clause-set : goal.returns-clause-set
returns-clause-set c = left_set c.args.pool.now c.intern_row.new.pool c.remove-gone.new.pool c.in_ok-made.made.ids c.args.set.now c.remove-gone.new.self
    c.in_ok-made.ensures.ok c.requires.held c.remove-gone.ensures.trades c.give_back_row.new.pool c.give_back_row.ensures c.remove-gone.ensures.set

pub returns-clause-held : goal.returns-clause-held
returns-clause-held c = left_held c.args.pool.now c.intern_row.new.pool c.remove-gone.new.pool c.in_ok-made.made.ids c.args.set.now c.remove-gone.new.self
    c.in_ok-made.ensures.ok c.requires.held c.remove-gone.ensures.trades c.give_back_row.new.pool c.give_back_row.ensures
