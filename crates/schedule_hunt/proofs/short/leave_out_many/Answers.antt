use Rattle.schedule_hunt.proofs.ShortLemmas.{part_on, shown_self}
use Rattle.schedule_hunt.proofs.short.leave_out_many.Goals as goal

pub sizes-init : goal.sizes-init
sizes-init c = shown_self _ _ _ c.requires.shown

pub sizes-preserved : goal.sizes-preserved
sizes-preserved c = part_on _ _ _ _ _ c.in_ok-leave_out_runs.ensures c.sizes.invariant
