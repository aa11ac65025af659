use Rattle.da_system.specs.Channels.{channel}
use Rattle.da_system.specs.State.{Whichever}
use Rattle.run_page.proofs.FlightLemmas.{TextUpTo}
use Rattle.run_page.proofs.cells.flight_text.Given as goal

abbrev pub invariant-loop-place : goal.invariant-loop-place
invariant-loop-place l = Whichever l.system (λ s. TextUpTo (channel s.channels l.q l.p) l.place l.text)
