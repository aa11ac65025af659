use Rattle.da_outside.proofs.OutsideLemmas.{prefix_whole}
use Rattle.run_watch.proofs.TellLemmas.{ended_cause}
use Rattle.run_watch.proofs.telling.say.Goals as goal

pub returns-in-Ok-clause-prefix : goal.returns-in-Ok-clause-prefix
returns-in-Ok-clause-prefix g c = prefix_whole _ _ _ c.in-Ok.ensures.ok

pub returns-in-Ok-clause-write : goal.returns-in-Ok-clause-write
returns-in-Ok-clause-write g c = ended_cause _ _ c.args.outcome c.requires c.in-Ok.ensures.cause (λ clash. absurd (cc))
