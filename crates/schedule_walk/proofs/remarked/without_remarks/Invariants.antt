use Rattle.std.proofs.Common.{◌≡◌, take}
use Rattle.schedule_walk.specs.Next.{bare_text}
use Rattle.schedule_walk.proofs.remarked.without_remarks.Given as goal

abbrev pub invariant-loop-event : goal.invariant-loop-event
invariant-loop-event l = l.out ≡ bare_text (take l.event-index l.events)
