use Rattle.std.proofs.Common.{◌≡◌, ◌++◌, take}
use Rattle.std.specs.List.{flat_map}
use Rattle.trace_page.specs.PageText.{change_item}
use Rattle.trace_page.proofs.table.put_each_change.Given as goal

abbrev pub invariant-loop-change : goal.invariant-loop-change
invariant-loop-change l = l.out ≡ l.fn.out ++ flat_map change_item (take l.change-index l.changes)
