use Rattle.da_system.proofs.SystemLemmas.{past_sub}
use Rattle.da_system.proofs.choices.past.Goals as goal

pub returns-in-Some : goal.returns-in-Some
returns-in-Some c = past_sub c.args.j c.in-Some.number c.args.count c.checked_sub.result c.in-Some.is c.checked_sub.ensures
