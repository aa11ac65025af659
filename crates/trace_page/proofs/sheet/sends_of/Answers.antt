use Rattle.std.proofs.Common.{◌-◌, ◌+◌, ◌≡◌, arith, length}
use Rattle.trace_page.proofs.SheetLemmas.{sends_all, sends_before, sends_none}
use Rattle.trace_page.proofs.sheet.sends_of.Goals as goal

pub loop-place-init : goal.loop-place-init
loop-place-init c = record { has = sends_none c.args.spots.now (length c.args.spots.now) c.new-sends.result (omega arith) c.new-sends.ensures.empty; within = omega arith }

pub loop-place-preserved : goal.loop-place-preserved
loop-place-preserved c = record {
  has =
      sends_before c.args.spots.now c.loop-place.place (c.loop-place.place - 1) c.index-spots-place.result c.loop-place.sends c.note_sending.new.sends
      (let same : c.loop-place.place - 1 + 1 ≡ c.loop-place.place = omega (arith, c.loop-place-test.true) in same) c.loop-place.invariant.within c.index-spots-place.is c.loop-place.invariant.has c.in_ok-note_sending.ensures;
  within = omega (arith, c.loop-place.invariant.within);
}

pub returns : goal.returns
returns c = sends_all c.args.spots.now c.loop-place.place c.loop-place.sends (omega (arith, c.loop-place-test.false)) c.loop-place.invariant.has
