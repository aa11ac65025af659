use Rattle.row_pool.proofs.KeepLaws.{keeps}
use Rattle.row_pool.proofs.MarkLaws.{kept_indexed}
use Rattle.row_pool.proofs.pool.Pool.try_keep.Goals as goal

pub invariant_of-self-2 : goal.invariant_of-self-2
invariant_of-self-2 c = kept_indexed _ _ _ _ (λ cell was. let u = c.try_add_holder.ensures.done c.if-not-try_add_holder.false cell was in record { changed = u.changed; others = u.others }) _ _ c.self.view_is c.id.view_is c.self.invariant c.requires

pub returns-clause-ok : goal.returns-clause-ok
returns-clause-ok c = (keeps _ _ _ _ (λ cell was. let u = c.try_add_holder.ensures.done c.if-not-try_add_holder.false cell was in record { changed = u.changed; others = u.others }) _ _ c.self.view_is c.id.view_is c.self.invariant.pool c.requires).1
