use Rattle.std.proofs.Common.{◌≡◌, length}
use Rattle.std.specs.List.{list_any}
use Rattle.da_system.specs.StressRun.{is_fault}
use Rattle.schedule_hunt.proofs.shown.has_fault.Given as goal

abbrev pub invariant-actions : goal.invariant-actions
invariant-actions l = list_any is_fault l.rest ≡ list_any is_fault l.actions

abbrev pub decreases-actions : goal.decreases-actions
decreases-actions l = length l.rest
