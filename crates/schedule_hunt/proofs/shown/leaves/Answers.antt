use Rattle.schedule_hunt.proofs.ShownLaws.{is_never, it_is, same_number}
use Rattle.schedule_hunt.proofs.shown.leaves.Goals as goal

pub returns-in-Some : goal.returns-in-Some
returns-in-Some c = it_is _ _ _ (c.in-Some.ensures) _ _ (same_number _ _)

pub returns-in-None : goal.returns-in-None
returns-in-None c = is_never (c.in-None.ensures c.args.q)
