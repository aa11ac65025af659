use Rattle.std.proofs.Common.{◌∙◌, ap}
use Rattle.std.specs.Prelude.{is_some}
use Rattle.std.proofs.lemmas.Map.Text.{btree_map_updates_str}
use Rattle.da_bodies.proofs.AgainLaws.{some_if}
use Rattle.da_bodies.proofs.repeats.see.Goals as goal

pub returns-in-Ok : goal.returns-in-Ok
returns-in-Ok c = λ q. ap is_some (btree_map_updates_str c.args.declared.name.now c.args.seen.now c.insert.new.self _ c.in-Ok.ensures.updates q) ∙ some_if _ _ _
