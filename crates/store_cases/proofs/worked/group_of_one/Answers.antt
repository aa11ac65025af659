use Rattle.std.proofs.Common.{[]}
use Rattle.row_pool.proofs.TradeLaws.{holds_given}
use Rattle.answer_index.proofs.HolderLaws.{set_stays}
use Rattle.store_cases.proofs.CaseLaws.{kept_held, kept_set}
use Rattle.store_cases.proofs.worked.group_of_one.Goals as goal

pub group_of_ids-group-requires-clause-set : goal.group_of_ids-group-requires-clause-set
group_of_ids-group-requires-clause-set c =
    set_stays c.args.pool.now c.intern_row.new.pool [] c.in_ok-one.one.ids c.args.set.now c.in_ok-one.ensures.ok c.requires.held c.requires.set

pub give_back_row-requires : goal.give_back_row-requires
give_back_row-requires c = holds_given c.args.pool.now c.intern_row.new.pool c.in_ok-one.one.ids c.in_ok-one.ensures.ok

pub returns-clause-set : goal.returns-clause-set
returns-clause-set c = kept_set c.args.pool.now c.intern_row.new.pool c.give_back_row.new.pool c.in_ok-one.one.ids c.args.set.now c.in_ok-one.ensures.ok c.requires.held
    c.give_back_row.ensures c.requires.set

pub returns-clause-held : goal.returns-clause-held
returns-clause-held c = kept_held c.args.pool.now c.intern_row.new.pool c.give_back_row.new.pool c.in_ok-one.one.ids c.args.set.now c.in_ok-one.ensures.ok c.requires.held
    c.give_back_row.ensures
