use Rattle.std.proofs.Common.{ap}
use Rattle.query_plan.proofs.KeepLaws.{test_of}
use Rattle.query_plan.proofs.storing.renumber_test.Goals as goal

pub returns : goal.returns
returns c = ap (λ k. test_of k c.args.test.filled) c.number_of.ensures
