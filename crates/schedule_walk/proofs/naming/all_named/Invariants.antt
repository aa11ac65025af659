use Rattle.std.proofs.Common.{take}
use Rattle.std.specs.List.{All}
use Rattle.sched_text.specs.EventText.{HasNames}
use Rattle.schedule_walk.proofs.naming.all_named.Given as goal

abbrev pub invariant-loop-event : goal.invariant-loop-event
invariant-loop-event l = All HasNames (take l.event-index l.events)
