use Rattle.std.proofs.Common.{length}
use Rattle.row_pool.specs.Pool.{Trades}
use Rattle.answer_index.proofs.row.give_back_row.Given as goal

abbrev pub invariant-loop-id : goal.invariant-loop-id
invariant-loop-id l = Trades l.fn.pool l.fn.row.ids l.pool l.ids

abbrev pub decreases-loop-id : goal.decreases-loop-id
decreases-loop-id l = length l.ids
