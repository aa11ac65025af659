use Rattle.std.proofs.Common.{◌≡◌, take}
use Rattle.query_plan.specs.Storing.{number_in, table_from}
use Rattle.query_plan.proofs.storing.table.Given as goal

abbrev pub invariant-loop-i : goal.invariant-loop-i
invariant-loop-i l = l.table ≡ table_from (number_in l.numbers) l.kept 0 (take l.i l.entries)
