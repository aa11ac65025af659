use Rattle.answer_index.proofs.RowLaws.{next_held, next_goes, split_id}
use Rattle.answer_index.proofs.row.give_back_row.Goals as goal

pub give_back-requires : goal.give_back-requires
give_back-requires c = next_held _ _ _ _ _ _ c.loop-id.invariant (split_id _ _ _ c.in-Some.ensures) c.requires

pub loop-id-preserved : goal.loop-id-preserved
loop-id-preserved c = next_goes _ _ _ _ _ _ c.loop-id.invariant (split_id _ _ _ c.in-Some.ensures) _ c.give_back.ensures
