use Rattle.row_pool.proofs.HolderLaws.{all_with}
use Rattle.store_cases.proofs.holder.intern.Goals as goal

pub put-requires : goal.put-requires
put-requires c = all_with _ _ _ _ c.requires c.in_ok-id.ensures.ok
