use Rattle.node_run.proofs.GivingLaws.{link_cut, sink_cut}
use Rattle.node_run.proofs.giving.tell.Goals as goal

pub returns-in-Err-clause-cut : goal.returns-in-Err-clause-cut
returns-in-Err-clause-cut g c = rw c.of_link.ensures (link_cut _ _ _ _ _ c.in-Err.ensures.prefix)

pub returns-in-Err-write_actions-clause-cut : goal.returns-in-Err-write_actions-clause-cut
returns-in-Err-write_actions-clause-cut g c = rw c.of_sink.ensures (sink_cut _ _ _ _ _ _ c.in-Ok.ensures.given c.in-Err-write_actions.ensures.prefix)
