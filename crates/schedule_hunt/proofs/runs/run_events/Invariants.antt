use Rattle.da_core.specs.Compiled.{program_of}
use Rattle.schedule_hunt.proofs.RunLemmas.{Came}
use Rattle.schedule_hunt.proofs.runs.run_events.Given as goal

abbrev pub invariant-loop-event : goal.invariant-loop-event
invariant-loop-event l = Came (program_of l.compiled) l.events l.event-index l.run
