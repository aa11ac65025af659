use Rattle.da_core.specs.Compiled.{program_of}
use Rattle.schedule_hunt.specs.Runs.{HasRun}
use Rattle.schedule_hunt.proofs.RunLemmas.{not_shown, shown_by_run}
use Rattle.schedule_hunt.proofs.runs.is_shown.Goals as goal

pub returns-in_default : goal.returns-in_default
returns-in_default c = not_shown _ c.args.what.now _ (rw c.in_default.is at c.in_ok-found.ensures)

pub reaches-requires : goal.reaches-requires
reaches-requires c =
    let ran : HasRun (program_of c.args.compiled.now) c.args.events.now c.in-Some.run' = rw c.in-Some.is at c.in_ok-found.ensures in
    record { compiled = c.requires.compiled; goal = c.requires.goal; program = ran.behind.program_is; ready = λ unspent. (_, ran.behind.stands); unspent = ran.behind.stands.runs.unspent }

pub returns : goal.returns
returns c = shown_by_run _ _ _ _ _ (rw c.in-Some.is at c.in_ok-found.ensures) c.in_ok-shown.ensures
