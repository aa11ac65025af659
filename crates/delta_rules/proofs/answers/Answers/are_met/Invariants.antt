use Rattle.std.proofs.Common.{◌≡◌, take, true}
use Rattle.query_plan.specs.Seen.{are_met}
use Rattle.row_pool.specs.Cells.{Cells}
use Rattle.delta_rules.specs.Told.{stored_rows}
use Rattle.delta_rules.proofs.answers.Answers.are_met.Given as goal

abbrev pub invariant-loop-one : goal.invariant-loop-one
invariant-loop-one l = (pool : Cells) → are_met (stored_rows l.self pool) (take l.one-index l.tests) ≡ true
