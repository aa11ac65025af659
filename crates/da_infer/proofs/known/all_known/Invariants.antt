use Rattle.std.proofs.Common.{◌≡◌, take, true}
use Rattle.std.specs.List.{list_all}
use Rattle.da_infer.specs.Known.{knows}
use Rattle.da_infer.proofs.known.all_known.Given as goal

abbrev pub invariant-loop-demand : goal.invariant-loop-demand
invariant-loop-demand l = list_all (knows l.count) (take l.demand-index l.demands) ≡ true
