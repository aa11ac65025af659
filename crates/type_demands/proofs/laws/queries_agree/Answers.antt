use Rattle.type_demands.proofs.QueriesAgree.{query_agrees, query_found}
use Rattle.type_demands.proofs.laws.queries_agree.Goals as goal

pub returns-clause-types : goal.returns-clause-types
returns-clause-types c = query_found

pub returns-clause-rows : goal.returns-clause-rows
returns-clause-rows c = query_agrees
