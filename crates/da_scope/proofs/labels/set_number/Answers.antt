use Rattle.std.proofs.lemmas.Map.Text.{btree_map_updates_str}
use Rattle.da_scope.proofs.labels.set_number.Goals as goal

pub returns-in-Ok : goal.returns-in-Ok
returns-in-Ok c = btree_map_updates_str c.args.name.now c.args.numbers.now c.insert.new.self _ c.in-Ok.ensures.updates
