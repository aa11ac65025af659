-- How a node ends whose link or sink had a trouble.
use Rattle.da_outside.specs.declared.outside.Trouble.{Trouble}
use Rattle.da_outside.specs.declared.outside.Trouble.TheVariants as trouble
use Rattle.node_run.specs.declared.outcome.NodeOutcome.{NodeOutcome}
use Rattle.node_run.specs.declared.outcome.NodeOutcome.TheVariants.{LinkFault, WriteFault, Memory}

abbrev pub link_fault : Trouble → NodeOutcome
link_fault trouble.Failed = LinkFault
link_fault trouble.Memory = Memory

abbrev pub sink_fault : Trouble → NodeOutcome
sink_fault trouble.Failed = WriteFault
sink_fault trouble.Memory = Memory
