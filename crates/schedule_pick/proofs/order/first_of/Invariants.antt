use Rattle.std.proofs.Common.{take}
use Rattle.std.specs.List.{All}
use Rattle.schedule_pick.specs.OrderSteps.{HasNone}
use Rattle.schedule_pick.proofs.order.first_of.Given as goal

abbrev pub invariant-loop-place : goal.invariant-loop-place
invariant-loop-place l = All (HasNone l.events) (take l.place l.order)
