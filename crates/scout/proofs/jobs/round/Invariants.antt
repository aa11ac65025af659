use Rattle.std.proofs.Common.{length}
use Rattle.scout.proofs.jobs.round.Given as goal

abbrev pub decreases-jobs : goal.decreases-jobs
decreases-jobs g l = length l.started
