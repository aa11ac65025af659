use Rattle.std.proofs.Common.{length}
use Rattle.std.specs.Prelude.{◌↔◌}
use Rattle.schedule_hunt.specs.Shown.{AnyOf}
use Rattle.schedule_hunt.specs.ShownSteps.{IsOtherOutput}
use Rattle.schedule_hunt.proofs.shown.has_other.Given as goal

abbrev pub invariant-actions : goal.invariant-actions
invariant-actions l = AnyOf (IsOtherOutput l.value) l.rest ↔ AnyOf (IsOtherOutput l.value) l.actions

abbrev pub decreases-actions : goal.decreases-actions
decreases-actions l = length l.rest
