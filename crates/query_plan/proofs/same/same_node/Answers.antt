use Rattle.std.proofs.Common.{rules}
use Rattle.query_plan.proofs.SpelledLaws.{test_is}
use Rattle.query_plan.proofs.same.same_node.Goals as goal

pub returns-clause-one : goal.returns-clause-one
returns-clause-one c = test_is c.args.a.now c.args.b.now _ (search rules)
