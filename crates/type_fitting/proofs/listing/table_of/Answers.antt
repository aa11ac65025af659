use denote.Bor.{Bor}
use Rattle.std.proofs.Common.{map, arith}
use Rattle.type_demands.specs.declared.demand.Demand.{Demand}
use Rattle.type_fitting.proofs.ListedLaws.{listing_begins, next_known, next_listed, all_listed}
use Rattle.type_fitting.proofs.listing.table_of.Goals as goal

pub loop-demand-init : goal.loop-demand-init
loop-demand-init c = listing_begins c.args.count (map (λ (x : Bor Demand). x.now) c.args.demands.now) _ _ _ c.in_ok-forms.ensures c.new-equations.ensures c.new-notes.ensures

pub put_demand-requires-clause-sound : goal.put_demand-requires-clause-sound
put_demand-requires-clause-sound c = c.loop-demand.invariant.sound

pub put_demand-requires-clause-known : goal.put_demand-requires-clause-known
put_demand-requires-clause-known c = next_known c.args.count c.args.demands.now c.loop-demand.demand-index c.demand-item.result c.demand-item.is c.loop-demand-test.true c.requires c.loop-demand.table c.loop-demand.invariant

pub loop-demand-preserved : goal.loop-demand-preserved
loop-demand-preserved c =
    next_listed c.args.count c.args.demands.now c.loop-demand.demand-index c.demand-item.result c.demand-item.is c.loop-demand-test.true c.requires c.loop-demand.table c.loop-demand.invariant c.put_demand.new.table c.in_ok-put_demand.ensures

pub returns : goal.returns
returns c = all_listed c.args.count c.args.demands.now c.loop-demand.demand-index c.loop-demand.table (omega (arith, c.loop-demand-test.false)) c.loop-demand.invariant
