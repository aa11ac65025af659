use Rattle.query_plan.proofs.twins.twin_or_itself.Goals as goal

pub returns-in-Some : goal.returns-in-Some
returns-in-Some c = rw c.in-Some.is at c.in_ok-found.ensures
