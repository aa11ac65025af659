use Rattle.query_plan.proofs.EntryLaws.{base_none, base_there}
use Rattle.query_plan.proofs.twins.base_of.Goals as goal

pub returns-in-Some : goal.returns-in-Some
returns-in-Some c = base_there c.args.entries.now c.args.j c.in-Some.entry.now c.in-Some.ensures.value

pub returns-in-None : goal.returns-in-None
returns-in-None c = base_none c.args.entries.now c.args.j c.in-None.ensures.value
