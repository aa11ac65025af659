use Rattle.std.proofs.Common.{◌≡◌, ◌++◌, take}
use Rattle.run_watch.specs.TellingSteps.{said_text}
use Rattle.run_watch.proofs.telling.put_said.Given as goal

abbrev pub invariant-loop-action : goal.invariant-loop-action
invariant-loop-action l = l.out ≡ l.fn.out ++ said_text (take l.action-index l.actions)
