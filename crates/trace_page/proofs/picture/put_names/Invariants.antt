use Rattle.std.proofs.Common.{◌≡◌, ◌++◌, take}
use Rattle.std.specs.List.{flat_map}
use Rattle.trace_page.specs.PageText.{name_text}
use Rattle.trace_page.proofs.picture.put_names.Given as goal

abbrev pub invariant-loop-column : goal.invariant-loop-column
invariant-loop-column l = l.out ≡ l.fn.out ++ flat_map (name_text l.page) (take l.column-index l.column-items)
