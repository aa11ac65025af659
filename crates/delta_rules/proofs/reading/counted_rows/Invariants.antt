use Rattle.std.proofs.Common.{◌≡◌, take}
use Rattle.answer_index.specs.Answers.{rows_of}
use Rattle.delta_rules.proofs.reading.counted_rows.Given as goal

abbrev pub invariant-loop-i : goal.invariant-loop-i
invariant-loop-i g l = l.rows ≡ take l.i (rows_of l.set l.pool)
