use Rattle.std.proofs.Common.{◌≡◌, take}
use Rattle.answer_index.specs.Rows.{row_of}
use Rattle.answer_index.proofs.values.row_values.Given as goal

abbrev pub invariant-loop-id : goal.invariant-loop-id
invariant-loop-id l = l.values ≡ row_of l.pool (take l.id-index l.row)
