use Rattle.std.proofs.Common.{◌≡◌, length}
use Rattle.da_outside.specs.Spawner.{Tells}
use Rattle.da_commands.specs.LaunchSteps.{numbers}
use Rattle.da_commands.specs.Launching.{child_words, starts}
use Rattle.da_commands.proofs.starting.start_all.Given as goal

abbrev pub invariant-processes : goal.invariant-processes
invariant-processes g l = record {
  size : length l.list ≡ l.place;
  told : Tells (g.S.Spawner.told l.initial.children) (g.S.Spawner.told l.children) (starts (child_words l.program l.setting) 1 (numbers l.list));
  faults : g.S.Spawner.faults l.children ≡ g.S.Spawner.faults l.initial.children;
}
