use Rattle.std.proofs.Common.{length}
use Rattle.da_outside.proofs.real_spawner.RealSpawner.end.Given as goal

abbrev pub decreases-loop-left : goal.decreases-loop-left
decreases-loop-left g l = length l.self.children
