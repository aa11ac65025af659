use Rattle.std.proofs.Common.{◌≡◌, ◌++◌, ◌+◌, ap, arith, refl}
use Rattle.std.specs.Prelude.{codes, decimal}
use Rattle.run_page.specs.Cells.{cell}
use Rattle.run_page.proofs.FlightLemmas.{flights_all, flights_first, flights_on}
use Rattle.run_page.proofs.cells.add_flights.Goals as goal

pub loop-place-init : goal.loop-place-init
loop-place-init c = λ s stands. flights_first s c.args.p c.args.cells.now

pub loop-place-preserved : goal.loop-place-preserved
loop-place-preserved c = λ s stands.
    flights_on s c.args.p c.loop-place.place _ c.args.cells.now c.loop-place.cells c.add_numbered.new.cells _ (c.loop-place.invariant s stands) refl (ap (cell (codes "from " ++ decimal (c.loop-place.place + 1))) (c.in_ok-text.ensures s stands))
    c.in_ok-add_numbered.ensures

pub returns : goal.returns
returns c = λ s stands.
    let all : c.loop-place.place ≡ c.args.count = omega (arith, c.loop-place-test.false, c.loop-place.auto.place-end) in
    flights_all s c.args.p c.loop-place.place c.args.count c.args.cells.now c.loop-place.cells all (c.loop-place.invariant s stands)
