use Rattle.std.proofs.Common.{◌≡◌, [], take}
use Rattle.row_pool.specs.Pool.{Trades}
use Rattle.answer_index.proofs.row.copy_row.Given as goal

abbrev pub invariant-loop-id : goal.invariant-loop-id
invariant-loop-id l = (l.ids ≡ take l.id-index l.row) × Trades l.fn.pool [] l.pool l.ids
