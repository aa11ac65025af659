use Rattle.std.proofs.Common.{◌≡◌, ◌++◌, take, flat_map}
use Rattle.sched_text.specs.ActionText.{action_line}
use Rattle.replay_run.proofs.run.add_lines.Given as goal

abbrev pub invariant-loop-action : goal.invariant-loop-action
invariant-loop-action l = l.text ≡ l.initial.text ++ flat_map action_line (take l.action-index l.actions)
