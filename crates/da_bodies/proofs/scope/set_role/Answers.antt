use Rattle.std.proofs.lemmas.Map.Text.{btree_map_updates_str}
use Rattle.da_bodies.proofs.scope.set_role.Goals as goal

pub returns-in-Ok-clause-ok : goal.returns-in-Ok-clause-ok
returns-in-Ok-clause-ok c = btree_map_updates_str c.args.name.now c.args.roles.now c.insert.new.self _ c.in-Ok.ensures.updates
