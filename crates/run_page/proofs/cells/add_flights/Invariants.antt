use Rattle.da_system.specs.State.{Whichever}
use Rattle.run_page.proofs.FlightLemmas.{FlightsUpTo}
use Rattle.run_page.proofs.cells.add_flights.Given as goal

abbrev pub invariant-loop-place : goal.invariant-loop-place
invariant-loop-place l = Whichever l.system (λ s. FlightsUpTo s l.p l.place l.fn.cells l.cells)
