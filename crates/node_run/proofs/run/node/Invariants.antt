use Rattle.std.proofs.Common.{◌≡◌, [], ◌+◌, ◌-◌, ◌*◌, length}
use Rattle.da_core.specs.Compiled.{program_of}
use Rattle.da_outside.specs.Link.{Carries}
use Rattle.node_run.proofs.EndLaws.{IsRunning}
use Rattle.node_run.proofs.run.node.Given as goal

abbrev pub invariant-rounds : goal.invariant-rounds
invariant-rounds g l = record {
  running : IsRunning (program_of l.c) l.me l.idle l.turns l.taken (g.L.Link.told l.fn.link) (g.L.Link.told l.link) (g.K.Sink.taken l.fn.sink) (g.K.Sink.taken l.sink) l.running;
  carries : Carries (g.L.Link.carried l.fn.link) (g.L.Link.carried l.link) [];
  count : g.L.Link.count l.link ≡ g.L.Link.count l.fn.link;
  link_faults : g.L.Link.faults l.link ≡ g.L.Link.faults l.fn.link;
  sink_faults : g.K.Sink.faults l.sink ≡ g.K.Sink.faults l.fn.sink;
}

abbrev pub decreases-rounds : goal.decreases-rounds
decreases-rounds g l = 2 * (l.turns - l.taken) + length l.running.held
