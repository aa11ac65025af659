use Rattle.answer_index.proofs.RowLaws.{next_held, next_goes, split_row}
use Rattle.answer_index.proofs.row.give_back_rows.Goals as goal

pub give_back_row-requires : goal.give_back_row-requires
give_back_row-requires c = next_held _ _ _ _ _ _ c.loop-row.invariant (split_row _ _ _ c.in-Some.ensures) c.requires

pub loop-row-preserved : goal.loop-row-preserved
loop-row-preserved c = next_goes _ _ _ _ _ _ c.loop-row.invariant (split_row _ _ _ c.in-Some.ensures) _ c.give_back_row.ensures
