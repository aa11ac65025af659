use Rattle.std.proofs.Common.{◌-◌, arith}
use Rattle.schedule_hunt.proofs.ShortLemmas.{passed_by, passed_out, passed_start, shown_self, tried_inside, tried_part}
use Rattle.schedule_hunt.proofs.short.leave_out_single.Goals as goal

pub places-init : goal.places-init
places-init c = record {
  part = shown_self _ _ _ c.requires.shown;
  inside = omega (arith, c.len-place.ensures);
  passed = passed_start _ _ _ _ c.len-place.ensures;
}

pub places-preserved-then-branch : goal.places-preserved-then-branch
places-preserved-then-branch c = record {
  part = tried_part _ _ _ (c.places.place - 1) 1 _ _ _ c.in_ok-try_without.ensures c.places.invariant.part;
  inside = tried_inside _ _ _ (c.places.place - 1) 1 _ _ c.in_ok-try_without.ensures (omega (arith, c.places.invariant.inside));
  passed = passed_out _ _ _ _ _ _ _ _ c.if-branch.true c.places-test.true c.places.invariant.inside c.in_ok-try_without.ensures c.places.invariant.passed;
}

pub places-preserved : goal.places-preserved
places-preserved c = record {
  part = tried_part _ _ _ (c.places.place - 1) 1 _ _ _ c.in_ok-try_without.ensures c.places.invariant.part;
  inside = tried_inside _ _ _ (c.places.place - 1) 1 _ _ c.in_ok-try_without.ensures (omega (arith, c.places.invariant.inside));
  passed = passed_by _ _ _ _ _ _ _ _ c.if-branch.false c.places-test.true c.places.invariant.inside c.in_ok-try_without.ensures c.places.invariant.passed;
}
