use Rattle.std.proofs.Common.{◌≡◌, ◌+◌, ◌++◌, drop}
use Rattle.trace_page.specs.Layout.{first_number}
use Rattle.trace_page.specs.Rows.{lines_in, placed}
use Rattle.trace_page.specs.Sheets.{rows_at}
use Rattle.trace_page.proofs.spots.place_rows.Given as goal

abbrev pub invariant-loop-row : goal.invariant-loop-row
invariant-loop-row l = record {
  rows : placed (first_number l.page.kind) 0 l.row-items ≡ rows_at l.found ++ placed l.event l.line (drop l.row-index l.row-items);
  lines : lines_in l.row-items ≡ l.line + lines_in (drop l.row-index l.row-items);
}
