use Rattle.std.proofs.Common.{◌≤◌, arith, length, refl}
use Rattle.da_system.specs.Channels.{channel}
use Rattle.run_page.proofs.FlightLemmas.{text_all, text_first, text_on}
use Rattle.run_page.proofs.cells.flight_text.Goals as goal

pub loop-place-init : goal.loop-place-init
loop-place-init c = λ s stands. text_first (channel s.channels c.args.q c.args.p) c.new-text.result c.new-text.ensures

pub loop-place-preserved : goal.loop-place-preserved
loop-place-preserved c = λ s stands.
    text_on (channel s.channels c.args.q c.args.p) c.loop-place.place _ c.loop-place.text c.put_numbered.new.out refl (c.loop-place.invariant s stands) (c.in_ok-put_numbered.ensures s stands)

pub returns : goal.returns
returns c = λ s stands.
    let past : length (channel s.channels c.args.q c.args.p) ≤ c.loop-place.place = omega (arith, c.loop-place-test.false, c.in_flight-count.ensures s stands) in
    text_all (channel s.channels c.args.q c.args.p) c.loop-place.place c.loop-place.text past (c.loop-place.invariant s stands)
