use Rattle.da_commands.proofs.ToldLemmas.{answer_cause}
use Rattle.da_commands.proofs.endings.say.Goals as goal

pub returns-in-Ok-clause-write : goal.returns-in-Ok-clause-write
returns-in-Ok-clause-write g c = answer_cause c.args.status _ _ c.requires c.in-Ok.ensures.cause
