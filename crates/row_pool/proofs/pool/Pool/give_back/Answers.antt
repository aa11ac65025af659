use Rattle.row_pool.proofs.ReleaseLaws.{gives_back}
use Rattle.row_pool.proofs.pool.Pool.give_back.Goals as goal

pub release-requires : goal.release-requires
release-requires c = c.lose_holder-first.ensures.marked _ c.self.invariant.marks

pub invariant_of-self : goal.invariant_of-self
invariant_of-self c =
    let (after, leaves) = c.release.ensures.releases c.self.invariant.find in
    record { find = after; pool = (gives_back c.self.invariant.find after _ _ _ _ _ _ _ c.self.view_is c.id.view_is c.self.invariant.pool c.requires c.lose_holder-first.ensures.loses leaves).0; marks = c.release.ensures.marked }

pub returns : goal.returns
returns c =
    let (after, leaves) = c.release.ensures.releases c.self.invariant.find in
    (gives_back c.self.invariant.find after _ _ _ _ _ _ _ c.self.view_is c.id.view_is c.self.invariant.pool c.requires c.lose_holder-first.ensures.loses leaves).1
