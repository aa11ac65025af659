use Rattle.std.proofs.Common.{◌≡◌, take}
use Rattle.schedule_walk.specs.Walk.{schedule_text}
use Rattle.schedule_walk.proofs.naming.schedule_of.Given as goal

abbrev pub invariant-loop-event : goal.invariant-loop-event
invariant-loop-event l = l.text ≡ schedule_text (take l.event-index l.events)
