use Rattle.da_system.specs.State.{program_of}
use Rattle.da_system.proofs.ChoiceLemmas.{is_choice}
use Rattle.da_system.proofs.system.System.choice.Goals as goal

pub returns-clause-allowed : goal.returns-clause-allowed
returns-clause-allowed c = λ s stands. is_choice (program_of c.args.self.now) s c.args.j c.in-Ok.event (c.in-Ok.ensures.found s stands)
