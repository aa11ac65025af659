use Rattle.row_pool.proofs.CellLaws.{holders_most}
use Rattle.row_pool.proofs.KeepLaws.{keeps}
use Rattle.row_pool.proofs.MarkLaws.{kept_indexed}
use Rattle.row_pool.proofs.pool.Pool.keep.Goals as goal

pub invariant_of-self : goal.invariant_of-self
invariant_of-self c = kept_indexed _ _ _ _ (λ cell was. let u = c.add_holder.ensures cell was in record { changed = u.changed; others = u.others }) _ _ c.self.view_is c.id.view_is c.self.invariant c.requires.used

pub returns-clause-trades : goal.returns-clause-trades
returns-clause-trades c = (keeps _ _ _ _ (λ cell was. let u = c.add_holder.ensures cell was in record { changed = u.changed; others = u.others }) _ _ c.self.view_is c.id.view_is c.self.invariant.pool c.requires.used).1

pub add_holder-requires-clause-room : goal.add_holder-requires-clause-room
add_holder-requires-clause-room c = holders_most _ _ _ _ _ c.self.view_is c.id.view_is c.self.invariant.pool c.len-live.result c.len-live.ensures c.len-live.type_inv c.requires.room
