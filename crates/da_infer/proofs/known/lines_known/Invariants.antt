use Rattle.std.proofs.Common.{◌≡◌, take, true}
use Rattle.std.specs.List.{list_all}
use Rattle.type_demands.specs.declared.demand.LineDemand.{LineDemand}
use Rattle.da_infer.specs.Known.{knows}
use Rattle.da_infer.proofs.known.lines_known.Given as goal

abbrev pub invariant-loop-one : goal.invariant-loop-one
invariant-loop-one l = list_all (λ (x : LineDemand). knows l.count x.demand) (take l.one-index l.demands) ≡ true
