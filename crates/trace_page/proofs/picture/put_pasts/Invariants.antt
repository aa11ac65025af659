use Rattle.std.proofs.Common.{◌≡◌, ◌++◌, take}
use Rattle.std.specs.List.{flat_map}
use Rattle.trace_page.specs.PageText.{past_text}
use Rattle.trace_page.specs.Sheets.{actions_at}
use Rattle.trace_page.proofs.picture.put_pasts.Given as goal

abbrev pub invariant-loop-spot : goal.invariant-loop-spot
invariant-loop-spot l = l.out ≡ l.fn.out ++ flat_map (past_text l.sheet.page.now) (actions_at (take l.spot-index l.spot-items))
