use Rattle.std.proofs.Common.{take}
use Rattle.class_demands.specs.Marks.{Puts}
use Rattle.class_demands.specs.Prefix.{seen}
use Rattle.class_demands.proofs.prefix.put_demands.Given as goal

abbrev pub invariant-loop-demand : goal.invariant-loop-demand
invariant-loop-demand l = Puts l.initial.used (seen l.initial.found) l.used (seen l.found) (take l.demand-index l.demands)
