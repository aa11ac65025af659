use Rattle.run_watch.specs.Beside.{IsThere}
use Rattle.schedule_hunt.proofs.remark.first_complaint.Given as goal

abbrev pub invariant-loop-place : goal.invariant-loop-place
invariant-loop-place l = IsThere l.watcher
