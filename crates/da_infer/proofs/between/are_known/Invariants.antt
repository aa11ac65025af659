use Rattle.std.proofs.Common.{◌≡◌, take, true}
use Rattle.std.specs.Borrow.{Bor}
use Rattle.std.specs.List.{list_all}
use Rattle.type_demands.specs.declared.demand.Demand.{Demand}
use Rattle.da_infer.specs.Known.{knows}
use Rattle.da_infer.proofs.between.are_known.Given as goal

abbrev pub invariant-loop-demand : goal.invariant-loop-demand
invariant-loop-demand l = list_all (λ (x : Bor Demand). knows l.count x.now) (take l.demand-index l.asked) ≡ true
