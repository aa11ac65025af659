use Rattle.std.proofs.Common.{length}
use Rattle.row_pool.specs.Pool.{Trades}
use Rattle.answer_index.specs.Rows.{ids_in}
use Rattle.answer_index.proofs.row.give_back_rows.Given as goal

abbrev pub invariant-loop-row : goal.invariant-loop-row
invariant-loop-row l = Trades l.fn.pool (ids_in l.fn.rows) l.pool (ids_in l.left)

abbrev pub decreases-loop-row : goal.decreases-loop-row
decreases-loop-row l = length l.left
