use Rattle.schedule_hunt.proofs.ShownLaws.{is_never, met_by_it}
use Rattle.schedule_hunt.proofs.shown.enters_and_is_met.Goals as goal

pub returns-in-Some : goal.returns-in-Some
returns-in-Some c = met_by_it _ _ _ (c.in-Some.ensures) _ _ _ c.is_met.ensures

pub returns-in-None : goal.returns-in-None
returns-in-None c = is_never (λ found. c.in-None.ensures found.0 found.1)
