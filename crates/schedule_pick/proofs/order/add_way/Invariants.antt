use Rattle.std.proofs.Common.{◌≡◌, ◌++◌}
use Rattle.std.specs.List.{flat_map}
use Rattle.da_core.specs.Told.{numbers_to}
use Rattle.schedule_pick.specs.Orders.{channels_from}
use Rattle.schedule_pick.proofs.order.add_way.Given as goal

abbrev pub invariant-loop-place : goal.invariant-loop-place
invariant-loop-place l = l.out ≡ l.fn.out ++ flat_map (channels_from l.way l.count) (numbers_to l.place)
