use Rattle.std.proofs.Common.{ℕ, ◌≤◌, ◌<◌}
use Rattle.schedule_hunt.specs.Shown.{HasEnded}
use Rattle.schedule_hunt.specs.ShownSteps.{AllEnded}
use Rattle.schedule_hunt.proofs.runs.has_unended.Given as goal

abbrev pub invariant-loop-place : goal.invariant-loop-place
invariant-loop-place l = AllEnded l.place l.actions
