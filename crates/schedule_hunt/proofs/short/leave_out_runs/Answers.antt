use Rattle.std.proofs.Common.{arith}
use Rattle.schedule_hunt.proofs.ShortLemmas.{shown_self, tried_inside, tried_part}
use Rattle.schedule_hunt.proofs.short.leave_out_runs.Goals as goal

pub places-init : goal.places-init
places-init c = record {
  part = shown_self _ _ _ c.requires.shown;
  inside = omega (arith, c.len-place.ensures);
}

pub places-preserved : goal.places-preserved
places-preserved c = record {
  part = tried_part _ _ _ _ _ _ _ _ c.in_ok-try_without.ensures c.places.invariant.part;
  inside = tried_inside _ _ _ _ _ _ _ c.in_ok-try_without.ensures (omega (arith, c.places.invariant.inside, c.saturating_sub-place.ensures));
}
