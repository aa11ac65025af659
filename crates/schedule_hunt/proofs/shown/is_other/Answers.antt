use Rattle.schedule_hunt.proofs.ShownLaws.{other_by_ne}
use Rattle.schedule_hunt.proofs.shown.is_other.Goals as goal

pub returns-in-Out : goal.returns-in-Out
returns-in-Out c = other_by_ne _ _ _ _ _ c.in-Out.is c.ne.ensures
