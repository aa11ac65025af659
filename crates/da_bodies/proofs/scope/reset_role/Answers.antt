use Rattle.std.proofs.lemmas.Map.Text.{btree_map_updates_str}
use Rattle.std.proofs.Common.{rules}
use Rattle.da_bodies.proofs.scope.reset_role.Goals as goal

pub returns-in-None : goal.returns-in-None
returns-in-None c = rw c.in-None.is (btree_map_updates_str c.args.name.now c.args.roles.now c.remove.new.self _ c.remove.ensures.updates)

pub returns-in-Some-get_mut : goal.returns-in-Some-get_mut
returns-in-Some-get_mut c = rw c.in-Some.is (btree_map_updates_str c.args.name.now c.args.roles.now (c.get_mut.follows.lender c.in-Some.role) _ ((c.get_mut.follows.holds c.in-Some.role).3 (search rules)))
