use Rattle.std.proofs.Common.{◌≡◌, take}
use Rattle.sched_text.specs.ActionText.{action_text}
use Rattle.node_run.proofs.giving.write_actions.Given as goal

abbrev pub invariant-loop-action : goal.invariant-loop-action
invariant-loop-action g l = l.text ≡ action_text (take l.action-index l.actions)
