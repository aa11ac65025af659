use Rattle.class_demands.specs.Prefix.{seen}
use Rattle.class_demands.proofs.MarkLaws.{demands_next}
use Rattle.class_demands.proofs.prefix.put_demands.Goals as goal

pub loop-demand-preserved : goal.loop-demand-preserved
loop-demand-preserved c =
    demands_next c.args.demands.now c.loop-demand.demand-index c.demand-item.result c.args.used.now c.loop-demand.used c.put_demand.new.used (seen c.args.found.now) (seen c.loop-demand.found) (seen c.put_demand.new.found)
    c.loop-demand-test.true c.demand-item.is c.loop-demand.invariant c.in_ok-put_demand.ensures
