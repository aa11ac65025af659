use Rattle.std.proofs.Common.{length}
use Rattle.std.specs.Prelude.{◌↔◌}
use Rattle.da_values.specs.Value.{val_of}
use Rattle.schedule_hunt.specs.Shown.{Overlaps}
use Rattle.schedule_hunt.proofs.shown.overlaps.Given as goal

abbrev pub invariant-actions : goal.invariant-actions
invariant-actions l = Overlaps (val_of l.enter) (val_of l.leave) l.rest ↔ Overlaps (val_of l.enter) (val_of l.leave) l.actions

abbrev pub decreases-actions : goal.decreases-actions
decreases-actions l = length l.rest
