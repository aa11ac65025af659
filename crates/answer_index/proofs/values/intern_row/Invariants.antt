use Rattle.std.proofs.Common.{take}
use Rattle.da_values.specs.Value.{vals}
use Rattle.row_pool.specs.Pool.{AreGiven}
use Rattle.answer_index.proofs.values.intern_row.Given as goal

abbrev pub invariant-loop-value : goal.invariant-loop-value
invariant-loop-value l = AreGiven l.fn.pool l.pool (vals (take l.value-index l.row)) l.ids
