use Rattle.std.proofs.Common.{◌≡◌, take}
use Rattle.delta_rules.specs.Keeping.{set_rows}
use Rattle.delta_rules.proofs.copies.rows_of_each.Given as goal

abbrev pub invariant-loop-set : goal.invariant-loop-set
invariant-loop-set l = l.rows ≡ set_rows l.pool (take l.set-index l.sets)
