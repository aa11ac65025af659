use Rattle.schedule_hunt.proofs.runs.try_number.Goals as goal

pub reaches-requires : goal.reaches-requires
reaches-requires g c =
    let ran = c.in_ok-trial.ensures.run in
    record { compiled = c.requires.compiled; goal = c.requires.goal; program = ran.behind.program_is; ready = λ unspent. (_, ran.behind.stands); unspent = ran.behind.stands.runs.unspent }
