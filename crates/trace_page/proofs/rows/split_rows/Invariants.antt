use Rattle.std.proofs.Common.{length}
use Rattle.trace_page.proofs.RowLemmas.{Split}
use Rattle.trace_page.proofs.rows.split_rows.Given as goal

abbrev pub invariant-each : goal.invariant-each
invariant-each l = Split l.fn.actions l.left l.row l.rows

abbrev pub decreases-each : goal.decreases-each
decreases-each l = length l.left
