use Rattle.std.proofs.Common.{◌≡◌, ◌++◌, take}
use Rattle.schedule_hunt.proofs.short.put_all.Given as goal

abbrev pub invariant-loop-event : goal.invariant-loop-event
invariant-loop-event l = l.out ≡ l.initial.out ++ take l.event-index l.events
