use Rattle.std.proofs.Common.{◌≡◌, ◌+◌, length}
use Rattle.std.specs.Prelude.{count_by}
use Rattle.da_system.specs.StressRun.{is_out}
use Rattle.schedule_hunt.proofs.shown.has_more.Given as goal

abbrev pub invariant-actions : goal.invariant-actions
invariant-actions l = l.k + count_by is_out l.rest ≡ l.left + count_by is_out l.actions

abbrev pub decreases-actions : goal.decreases-actions
decreases-actions l = length l.rest
