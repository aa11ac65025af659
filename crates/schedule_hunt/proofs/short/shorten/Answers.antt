use Rattle.schedule_hunt.proofs.ShortLemmas.{part_on, pass_on, part_then}
use Rattle.schedule_hunt.proofs.short.shorten.Goals as goal

pub passes-init : goal.passes-init
passes-init c = record { part = c.in_ok-leave_out_many.ensures; needed = tt }

pub passes-preserved : goal.passes-preserved
passes-preserved c = record {
  part = part_on _ _ _ _ _ c.in_ok-some.ensures.part c.passes.invariant.part;
  needed = pass_on _ _ _ _ _ c.in_ok-some.ensures.shortened;
}
