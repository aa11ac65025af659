use Rattle.schedule_hunt.proofs.ShownLaws.{differ_from, is_never, none_differ}
use Rattle.schedule_hunt.proofs.shown.outputs_differ.Goals as goal

pub returns-in-Some : goal.returns-in-Some
returns-in-Some c = differ_from _ _ _ (c.in-Some.ensures) c.has_other.ensures

pub returns-in-None : goal.returns-in-None
returns-in-None c = is_never (none_differ _ (c.in-None.ensures))
