use Rattle.type_demands.proofs.QueriesAgree.{cond_agrees}
use Rattle.type_demands.proofs.laws.conditions_agree.Goals as goal

pub returns : goal.returns
returns c = cond_agrees
