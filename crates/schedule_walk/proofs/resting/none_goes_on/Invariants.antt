use Rattle.std.proofs.Common.{take}
use Rattle.std.specs.List.{All}
use Rattle.schedule_walk.specs.Rest.{IsIdle}
use Rattle.schedule_walk.proofs.resting.none_goes_on.Given as goal

abbrev pub invariant-loop-event : goal.invariant-loop-event
invariant-loop-event l = All IsIdle (take l.event-index l.events)
