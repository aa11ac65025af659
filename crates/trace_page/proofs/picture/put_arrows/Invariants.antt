use Rattle.std.proofs.Common.{◌≡◌, ◌++◌, take}
use Rattle.std.specs.List.{flat_map}
use Rattle.std.specs.Prelude.{[], ◌∷◌}
use Rattle.trace_page.specs.Arrows.{arrow_text}
use Rattle.trace_page.specs.Parts.{mark, parts_text}
use Rattle.trace_page.specs.Sheets.{actions_at}
use Rattle.trace_page.specs.declared.markup.Markup.TheVariants.{Arrows}
use Rattle.trace_page.proofs.picture.put_arrows.Given as goal

abbrev pub invariant-loop-spot : goal.invariant-loop-spot
invariant-loop-spot l = l.out ≡ l.fn.out ++ parts_text (mark Arrows ∷ []) ++ flat_map (arrow_text l.sheet.page.now (actions_at l.sheet.spots)) (actions_at (take l.spot-index l.spot-items))
