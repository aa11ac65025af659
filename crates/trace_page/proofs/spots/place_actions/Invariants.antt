use Rattle.std.proofs.Common.{◌≡◌, take}
use Rattle.trace_page.specs.Rows.{spots_of}
use Rattle.trace_page.specs.Sheets.{actions_at, rows_at}
use Rattle.trace_page.proofs.spots.place_actions.Given as goal

abbrev pub invariant-loop-row : goal.invariant-loop-row
invariant-loop-row l = actions_at l.spots ≡ spots_of (rows_at (take l.row-index l.row-items))
