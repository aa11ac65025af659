use Rattle.std.proofs.Common.{◌≡◌, ◌++◌, take}
use Rattle.std.specs.List.{flat_map}
use Rattle.std.specs.Prelude.{[], ◌∷◌}
use Rattle.trace_page.specs.PageText.{mark_text}
use Rattle.trace_page.specs.Parts.{mark, parts_text}
use Rattle.trace_page.specs.Sheets.{actions_at}
use Rattle.trace_page.specs.declared.markup.Markup.TheVariants.{Marks}
use Rattle.trace_page.proofs.picture.put_marks.Given as goal

abbrev pub invariant-loop-spot : goal.invariant-loop-spot
invariant-loop-spot l = l.out ≡ l.fn.out ++ parts_text (mark Marks ∷ []) ++ flat_map (mark_text l.sheet.page.now) (actions_at (take l.spot-index l.spot-items))
