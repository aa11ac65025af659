use Rattle.std.proofs.Common.{◌≡◌, ◌++◌, map}
use Rattle.da_core.specs.Told.{numbers_to}
use Rattle.schedule_pick.specs.Orders.{process}
use Rattle.schedule_pick.proofs.order.add_processes.Given as goal

abbrev pub invariant-loop-place : goal.invariant-loop-place
invariant-loop-place l = l.out ≡ l.fn.out ++ map process (numbers_to l.place)
