-- The status of a call whose run or node ended so.
use Rattle.node_run.specs.declared.outcome.NodeOutcome.{NodeOutcome}
use Rattle.node_run.specs.declared.outcome.NodeOutcome.TheVariants as node
use Rattle.replay_run.specs.declared.outcome.Outcome.{Outcome}
use Rattle.replay_run.specs.declared.outcome.Outcome.TheVariants as run
use Rattle.da_commands.specs.declared.status.Status.{Status}
use Rattle.da_commands.specs.declared.status.Status.TheVariants.{Done, Forbidden, WriteFault, Memory, LinkFault, Idle, Spent, Faulted}

abbrev pub status_of_run : Outcome → Status
status_of_run run.Done = Done
status_of_run (run.Forbidden event) = Forbidden event
status_of_run run.WriteFault = WriteFault
status_of_run run.Memory = Memory

abbrev pub status_of_node : NodeOutcome → Status
status_of_node node.Done = Done
status_of_node node.Faulted = Faulted
status_of_node node.Idle = Idle
status_of_node node.Spent = Spent
status_of_node node.LinkFault = LinkFault
status_of_node node.WriteFault = WriteFault
status_of_node node.Memory = Memory
