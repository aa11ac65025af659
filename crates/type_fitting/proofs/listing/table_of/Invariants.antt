use denote.Bor.{Bor}
use Rattle.std.proofs.Common.{take, map}
use Rattle.type_demands.specs.declared.demand.Demand.{Demand}
use Rattle.type_fitting.specs.Listed.{Listed}
use Rattle.type_fitting.proofs.listing.table_of.Given as goal

abbrev pub invariant-loop-demand : goal.invariant-loop-demand
invariant-loop-demand l = Listed l.count (take l.demand-index (map (λ (x : Bor Demand). x.now) l.demands)) l.table
