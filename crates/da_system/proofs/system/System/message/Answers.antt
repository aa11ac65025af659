use Rattle.da_system.proofs.system.System.message.Goals as goal

pub returns : goal.returns
returns c = λ s stands. c.message.ensures.value s.channels stands.runs.channels
