use Rattle.class_demands.proofs.MarkLaws.{demand_put}
use Rattle.class_demands.proofs.prefix.put_demand.Goals as goal

pub returns : goal.returns
returns c = demand_put c.args.demand c.args.found.now c.push.new.self c.args.used.now c.mark_use.new.used c.in_ok-mark_use.ensures c.in_ok-push.ensures.ok
