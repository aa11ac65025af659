use Rattle.std.proofs.Common.{◌≡◌, ◌++◌, take}
use Rattle.std.specs.List.{flat_map}
use Rattle.trace_page.specs.PageText.{row_text}
use Rattle.trace_page.specs.Sheets.{rows_at}
use Rattle.trace_page.proofs.table.put_rows.Given as goal

abbrev pub invariant-loop-row : goal.invariant-loop-row
invariant-loop-row l = l.out ≡ l.fn.out ++ flat_map (row_text l.kind) (rows_at (take l.row-index l.rows))
