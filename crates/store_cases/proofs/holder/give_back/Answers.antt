use Rattle.row_pool.proofs.HolderLaws.{holds_at, all_without}
use Rattle.store_cases.proofs.holder.give_back.Goals as goal

pub give_back-requires : goal.give_back-requires
give_back-requires c = holds_at _ _ c.requires _ _ c.remove-id.ensures.value

pub returns-then-at-len : goal.returns-then-at-len
returns-then-at-len c = rw c.remove-id.ensures.rest (all_without _ _ _ _ _ c.remove-id.ensures.value c.requires c.give_back.ensures)
