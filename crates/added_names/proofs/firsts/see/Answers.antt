use Rattle.std.proofs.Common.{◌∙◌, ap}
use Rattle.std.specs.Prelude.{is_some}
use Rattle.std.proofs.lemmas.Map.Text.{btree_map_updates_str}
use Rattle.added_names.proofs.FirstLaws.{some_if}
use Rattle.added_names.proofs.firsts.see.Goals as goal

pub returns-in-Ok : goal.returns-in-Ok
returns-in-Ok c = λ q. ap is_some (btree_map_updates_str c.args.name.now c.args.seen.now c.insert.new.self _ c.in-Ok.ensures.updates q) ∙ some_if _ _ _
