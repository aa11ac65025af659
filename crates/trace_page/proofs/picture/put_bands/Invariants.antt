use Rattle.std.proofs.Common.{◌≡◌, ◌++◌, take}
use Rattle.std.specs.List.{flat_map}
use Rattle.trace_page.specs.PageText.{band_text}
use Rattle.trace_page.specs.Sheets.{rows_at}
use Rattle.trace_page.proofs.picture.put_bands.Given as goal

abbrev pub invariant-loop-row : goal.invariant-loop-row
invariant-loop-row l = l.out ≡ l.fn.out ++ flat_map (band_text l.sheet.page.now) (rows_at (take l.row-index l.row-items))
