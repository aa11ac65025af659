use Rattle.std.proofs.Common.{◌-◌, ◌+◌, ◌≡◌, arith, length}
use Rattle.trace_page.proofs.SheetLemmas.{ends_all, ends_before, ends_none}
use Rattle.trace_page.proofs.sheet.ends_of.Goals as goal

pub loop-place-init : goal.loop-place-init
loop-place-init c = record { has = ends_none c.args.spots.now (length c.args.spots.now) c.new-ends.result (omega arith) c.new-ends.ensures.empty; within = omega arith }

pub loop-place-preserved : goal.loop-place-preserved
loop-place-preserved c = record {
  has =
      ends_before c.args.spots.now c.loop-place.place (c.loop-place.place - 1) c.index-spots-place.result c.loop-place.ends c.note_end.new.ends
      (let same : c.loop-place.place - 1 + 1 ≡ c.loop-place.place = omega (arith, c.loop-place-test.true) in same) c.loop-place.invariant.within c.index-spots-place.is c.loop-place.invariant.has c.in_ok-note_end.ensures;
  within = omega (arith, c.loop-place.invariant.within);
}

pub returns : goal.returns
returns c = ends_all c.args.spots.now c.loop-place.place c.loop-place.ends (omega (arith, c.loop-place-test.false)) c.loop-place.invariant.has
