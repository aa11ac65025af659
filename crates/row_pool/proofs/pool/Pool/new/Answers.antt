use Rattle.row_pool.proofs.NewLaws.{empty_indexed}
use Rattle.row_pool.proofs.NumberLaws.{no_entries}
use Rattle.row_pool.proofs.pool.Pool.new.Goals as goal

pub invariant_of-result : goal.invariant_of-result
invariant_of-result c = empty_indexed _ _ c.new-cells.ensures.empty (no_entries c.new-index.result c.new-index.ensures.empty)
