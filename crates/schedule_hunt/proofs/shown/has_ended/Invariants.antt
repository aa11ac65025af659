use Rattle.std.proofs.Common.{length}
use Rattle.std.specs.Prelude.{◌↔◌}
use Rattle.schedule_hunt.specs.Shown.{HasEnded}
use Rattle.schedule_hunt.proofs.shown.has_ended.Given as goal

abbrev pub invariant-actions : goal.invariant-actions
invariant-actions l = HasEnded l.p l.rest ↔ HasEnded l.p l.actions

abbrev pub decreases-actions : goal.decreases-actions
decreases-actions l = length l.rest
