use Rattle.std.proofs.Common.{rules}
use Rattle.answer_index.proofs.RowLaws.{copy_used, copy_next, copy_refused}
use Rattle.answer_index.proofs.row.copy_row.Goals as goal

pub keep_next-requires : goal.keep_next-requires
keep_next-requires c =
    copy_used _ _ c.args.row.now _ c.loop-id.id-index _ c.loop-id.invariant.0 c.loop-id.invariant.1 (search rules) c.id-item.is c.requires

pub returns-in-Err-clause-err : goal.returns-in-Err-clause-err
returns-in-Err-clause-err c = copy_refused _ _ _ _ _ _ c.loop-id.invariant.1 c.in-Err.ensures.same c.in-Err.ensures.err c.give_back_row.ensures

pub loop-id-preserved : goal.loop-id-preserved
loop-id-preserved c =
    copy_next _ _ c.args.row.now _ c.loop-id.id-index _ c.loop-id.invariant.0 c.loop-id.invariant.1 (search rules) c.id-item.is _ _ c.in-Ok.ensures.ids c.in-Ok.ensures.ok
