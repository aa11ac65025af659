use Rattle.std.proofs.Common.{arith}
use Rattle.row_pool.proofs.marks.without_hash.Goals as goal

pub returns-clause-sum : goal.returns-clause-sum
returns-clause-sum c = omega arith
