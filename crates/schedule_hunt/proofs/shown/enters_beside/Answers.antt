use Rattle.schedule_hunt.proofs.ShownLaws.{beside_it, is_never, other_number}
use Rattle.schedule_hunt.proofs.shown.enters_beside.Goals as goal

pub returns-in-Some : goal.returns-in-Some
returns-in-Some c = beside_it _ _ _ (c.in-Some.ensures) _ _ (other_number _ _)

pub returns-in-None : goal.returns-in-None
returns-in-None c = is_never (λ found. c.in-None.ensures found.0 found.1)
