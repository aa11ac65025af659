use Rattle.std.proofs.Common.{◌≡◌, [], take}
use Rattle.da_outside.specs.Link.{Carries, Gains}
use Rattle.node_run.specs.NodeRun.{gifts}
use Rattle.node_run.proofs.giving.give_all.Given as goal

abbrev pub invariant-loop-action : goal.invariant-loop-action
invariant-loop-action g l = record {
  gave : Gains (g.L.Link.told l.initial.link) (g.L.Link.told l.link) (gifts (take l.action-index l.actions));
  carries : Carries (g.L.Link.carried l.initial.link) (g.L.Link.carried l.link) [];
  kept : g.L.Link.count l.link ≡ g.L.Link.count l.initial.link;
  faults : g.L.Link.faults l.link ≡ g.L.Link.faults l.initial.link;
}
