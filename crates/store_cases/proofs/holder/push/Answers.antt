use Rattle.row_pool.proofs.HolderLaws.{holds_last, all_but_last}
use Rattle.store_cases.proofs.holder.push.Goals as goal

pub give_back-requires : goal.give_back-requires
give_back-requires c = rw c.in-Err.ensures.back (holds_last _ _ _ c.requires)

pub returns-in-Err : goal.returns-in-Err
returns-in-Err c = rw c.in-Err.ensures.err (all_but_last _ _ _ _ c.requires (rw (← c.in-Err.ensures.back) c.give_back.ensures))
