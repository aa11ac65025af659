use Rattle.std.proofs.Common.{◌≡◌, ◌≤◌, ◌*◌, length, map, take}
use Rattle.std.specs.Prelude.{sum}
use Rattle.row_pool.specs.Cells.{Cells}
use Rattle.delta_rules.specs.Keeping.{set_rows}
use Rattle.delta_rules.proofs.answers.Answers.kept.Given as goal

abbrev pub invariant-loop-place : goal.invariant-loop-place
invariant-loop-place l = ((pool : Cells) → l.total ≡ sum (map length (set_rows pool (take l.place l.self.live.items)))) × (l.total ≤ l.place * 18446744073709551615)
