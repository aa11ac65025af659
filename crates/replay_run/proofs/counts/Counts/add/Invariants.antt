use Rattle.std.proofs.Common.{take}
use Rattle.replay_run.specs.Stress.{CountsMore, UsesRoom}
use Rattle.replay_run.proofs.counts.Counts.add.Given as goal

abbrev pub invariant-loop-action : goal.invariant-loop-action
invariant-loop-action l = record {
  counts : CountsMore l.fn.self (take l.action-index l.actions) l.self;
  room : UsesRoom l.action-index l.fn.self l.self;
}
