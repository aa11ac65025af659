use Rattle.std.proofs.Common.{◌≡◌, ◌++◌, take}
use Rattle.class_demands.specs.Prefix.{seen}
use Rattle.class_demands.proofs.prefix.put_found.Given as goal

abbrev pub invariant-loop-demand : goal.invariant-loop-demand
invariant-loop-demand l = seen l.found ≡ seen l.initial.found ++ seen (take l.demand-index l.part)
