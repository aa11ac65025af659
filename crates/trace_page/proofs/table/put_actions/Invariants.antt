use Rattle.std.proofs.Common.{◌≡◌, ◌++◌, take}
use Rattle.std.specs.List.{flat_map}
use Rattle.trace_page.specs.PageText.{action_item}
use Rattle.trace_page.proofs.table.put_actions.Given as goal

abbrev pub invariant-loop-action : goal.invariant-loop-action
invariant-loop-action l = l.out ≡ l.fn.out ++ flat_map action_item (take l.action-index l.actions)
