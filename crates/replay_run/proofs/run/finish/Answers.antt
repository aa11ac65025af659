use Rattle.da_outside.proofs.OutsideLemmas.{prefix_whole}
use Rattle.replay_run.proofs.run.finish.Goals as goal

pub returns-in-Ok-clause-prefix : goal.returns-in-Ok-clause-prefix
returns-in-Ok-clause-prefix g c = prefix_whole _ _ _ c.in-Ok.ensures.ok
