use Rattle.std.proofs.Common.{◌≡◌, ◌+◌, ◌≤◌, length}
use Rattle.da_commands.specs.LaunchSteps.{numbers}
use Rattle.da_commands.proofs.LaunchLemmas.{Came}
use Rattle.da_commands.proofs.finishing.finish_all.Given as goal

abbrev pub invariant-children : goal.invariant-children
invariant-children g l = record {
  came : Came (numbers l.fn.list) (g.S.Spawner.told l.initial.children) (g.K.Sink.taken l.initial.out) (numbers l.left) l.process l.status (g.S.Spawner.told l.children) (g.K.Sink.taken l.out);
  few : l.process + length l.left ≤ 64;
  out : g.K.Sink.faults l.out ≡ g.K.Sink.faults l.initial.out;
  children : g.S.Spawner.faults l.children ≡ g.S.Spawner.faults l.initial.children;
}

abbrev pub decreases-children : goal.decreases-children
decreases-children g l = length l.left
