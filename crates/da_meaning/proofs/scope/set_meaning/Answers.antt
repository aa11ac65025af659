use Rattle.da_meaning.proofs.ScopeIndexLaws.{meaning_set}
use Rattle.da_meaning.proofs.scope.set_meaning.Goals as goal

pub returns-in-Ok : goal.returns-in-Ok
returns-in-Ok c = meaning_set c.args.index.now c.insert.new.self c.args.name.now c.args.means c.in-Ok.ensures.updates
