use Rattle.std.proofs.Common.{◌≡◌, ◌++◌, map, take}
use Rattle.da_calls.specs.declared.order.Visit.TheVariants.{Enter}
use Rattle.da_calls.proofs.order.enter_all.Given as goal

abbrev pub invariant-loop-node : goal.invariant-loop-node
invariant-loop-node l = l.work ≡ l.fn.work ++ map Enter (take l.node-index l.nodes)
