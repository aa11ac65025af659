use Rattle.std.proofs.Common.{◌≤◌, List, Option, length}
use Rattle.da_outside.specs.declared.spawner.Ended.{Ended}
use Rattle.da_commands.specs.LaunchSteps.{numbers}
use Rattle.da_commands.proofs.LaunchLemmas.{FinishedSoFar}
use Rattle.da_commands.proofs.finishing.finish_rest.Given as goal

abbrev pub invariant-children : goal.invariant-children
invariant-children g l = record {
  so_far : (ends : List (Option Ended)) × FinishedSoFar (numbers l.fn.list) (numbers l.left) ends (g.S.Spawner.told l.initial.children) (g.S.Spawner.told l.children);
  later : g.S.Spawner.faults l.initial.children ≤ g.S.Spawner.faults l.children;
}

abbrev pub decreases-children : goal.decreases-children
decreases-children g l = length l.left
