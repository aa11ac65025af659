use Rattle.da_system.specs.State.{program_of}
use Rattle.da_system.proofs.ChoiceLemmas.{choice_of_deliveries, choice_of_moves}
use Rattle.da_system.proofs.system.System.find.Goals as goal

pub returns-in-Ok-clause-found : goal.returns-in-Ok-clause-found
returns-in-Ok-clause-found c = λ s stands. choice_of_moves (program_of c.args.self.now) s c.args.j c.in-Ok.event (c.in-Ok.ensures.found s stands)

pub returns-in-Err-clause-found : goal.returns-in-Err-clause-found
returns-in-Err-clause-found c = λ s stands. choice_of_deliveries (program_of c.args.self.now) s c.args.j c.in-Err.past c.find_delivery.result (c.in-Err.ensures.found s stands) (c.find_delivery.ensures.found s stands)
