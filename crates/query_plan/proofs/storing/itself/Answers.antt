use Rattle.std.proofs.Common.{ap}
use Rattle.query_plan.proofs.KeepLaws.{of_parts}
use Rattle.query_plan.proofs.storing.itself.Goals as goal

pub returns : goal.returns
returns c = ap (of_parts c.args.node) c.new.ensures
