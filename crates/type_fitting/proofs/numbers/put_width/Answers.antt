use Rattle.std.proofs.Common.{ap}
use Rattle.type_demands.specs.declared.demand.Demand.TheVariants as d
use Rattle.type_fitting.proofs.MetLaws.{put_as}
use Rattle.type_fitting.proofs.numbers.put_width.Goals as goal

pub returns-then-count-eq0 : goal.returns-then-count-eq0
returns-then-count-eq0 c = put_as c.put_empty.result c.args.table.now c.put_empty.new.table (d.Width c.args.scheme.now 0) (d.Width c.args.scheme.now c.args.count) (ap (d.Width c.args.scheme.now) c.if-count-eq0.true) c.put_empty.ensures

pub returns-else-count-eq0 : goal.returns-else-count-eq0
returns-else-count-eq0 c = c.put_parts.ensures
