use Rattle.std.proofs.Common.{◌≡◌, ◌++◌, take}
use Rattle.sched_text.specs.ActionText.{action_text}
use Rattle.run_watch.proofs.telling.put_actions.Given as goal

abbrev pub invariant-loop-action : goal.invariant-loop-action
invariant-loop-action l = l.out ≡ l.fn.out ++ action_text (take l.action-index l.actions)
