use Rattle.std.proofs.Common.{◌≡◌, drop}
use Rattle.std.specs.List.{list_any}
use Rattle.run_watch.specs.Watching.{is_said}
use Rattle.run_watch.proofs.watcher.says_any.Given as goal

abbrev pub invariant-loop-action : goal.invariant-loop-action
invariant-loop-action l = list_any is_said (drop l.action-index l.actions) ≡ list_any is_said l.actions
