use Rattle.da_system.proofs.system.System.in_flight.Goals as goal

pub returns : goal.returns
returns c = λ s stands. c.in_flight.ensures s stands.runs
